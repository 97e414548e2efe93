-- The size of price risks (own profile).
pub use Rattle.mgn_span.specs.Sizes.{IsRisk}
