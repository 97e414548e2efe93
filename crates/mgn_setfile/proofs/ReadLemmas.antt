-- From record to record of a text that one reader reads: what its records give, and where its first fault stands.
use Rattle.std.proofs.Common.{◌≡◌, ◌+◌, ◌^◌, ◌<◌, ◌≤◌, ℕ, zero, suc, List, [], ◌∷◌, ◌++◌, length, map, drop, Bool, true, false, Option, Some, None, Result, Ok, Err, Bor, inl, inr, refl, sym, ap, subst, ◌∙◌, arith}
use Rattle.std.specs.Prelude.{◌==◌, ◌||◌, ◌⊎◌, if◌then◌else◌, IfErr, IfNone, slice_index_or}
use Rattle.std.specs.List.{flat_map, slice_split}
use Rattle.csv.specs.declared.parser.Action.{Action}
use Rattle.csv.specs.declared.parser.Action.TheVariants as act
use Rattle.csv.specs.declared.parser.State.{State}
use Rattle.csv.specs.declared.parser.State.TheVariants as st
use Rattle.csv.specs.declared.reader.Reader.{Reader}
use Rattle.csv.specs.declared.reader.Trim.TheVariants as trim
use Rattle.csv.specs.Machine.{Read, ends_at_end, field_after, fields_after, in_field, is_end, next_record, start_field, step}
use Rattle.csv.specs.Reading.{Reached, ReadRecord, ReadsOn, Ready, default_config, is_bom, records, records_from, source_of, strip_bom}
use Rattle.csv.proofs.ReadFacts.{rows-end, rows-more}
use Rattle.mgn_setfile.specs.declared.draft.Draft.{Draft}
use Rattle.mgn_setfile.specs.declared.draft.SetFile.{SetFile}
use Rattle.mgn_setfile.specs.declared.detail.Detail.TheVariants.{Second as Twice}
use Rattle.mgn_setfile.specs.declared.fault.Cause.TheVariants.{Fields as WrongFields, Memory}
use Rattle.mgn_setfile.specs.declared.fault.SetFault.{SetFault}
use Rattle.mgn_setfile.specs.Fields.{Fields, Flaw, whole}
use Rattle.mgn_setfile.specs.File.{Record, fault_in, goes_on, judged, line_of_record, numbered, outcome, record_of_line, records_of, told, version_left}
use Rattle.mgn_setfile.specs.Plain.{Gives, HasRead, TellsFault, given, unread}
use Rattle.mgn_setfile.specs.Words.{detail_of, numbered_record}
use Rattle.mgn_setfile.proofs.FileLemmas.{after_next, record_is, version_of_one}
use Rattle.mgn_setfile.proofs.LineLemmas.{IsFresh, none_left}

-- Where a byte ends a record, the state after it is outside of records.

abbrev EndsOutside : State × Action → Type 0
EndsOutside x = is_end x.1 ≡ true → ends_at_end x.0 ≡ false

field_picks : (comma return end : Bool) → EndsOutside (if comma then (st.StartField, act.EndField) else if return || end then (if return then st.AfterCr else st.StartRecord, act.EndRecord) else (st.InField, act.Copy))
field_picks true return end = λ e. cc
field_picks false true end = λ e. refl
field_picks false false true = λ e. refl
field_picks false false false = λ e. cc

start_picks : (quote : Bool) (x : State × Action) → EndsOutside x → EndsOutside (if quote then (st.InQuoted, act.Skip) else x)
start_picks true x other = λ e. cc
start_picks false x other = other

before_picks : (skip : Bool) (x : State × Action) → EndsOutside x → EndsOutside (if skip then (st.StartRecord, act.Skip) else x)
before_picks true x other = λ e. refl
before_picks false x other = other

quoted_picks : (quote : Bool) → EndsOutside (if quote then (st.AfterQuote, act.Skip) else (st.InQuoted, act.Copy))
quoted_picks true = λ e. cc
quoted_picks false = λ e. cc

quote_picks : (quote : Bool) (x : State × Action) → EndsOutside x → EndsOutside (if quote then (st.InQuoted, act.Copy) else x)
quote_picks true x other = λ e. cc
quote_picks false x other = other

comment_picks : (end : Bool) → EndsOutside (if end then (st.StartRecord, act.Skip) else (st.InComment, act.Skip))
comment_picks true = λ e. refl
comment_picks false = λ e. cc

field_ends : (c : ℕ) → EndsOutside (in_field default_config c)
field_ends c = field_picks (c == 44) (c == 13) (c == 10)

start_ends : (c : ℕ) → EndsOutside (start_field default_config c)
start_ends c = start_picks (c == 34) (in_field default_config c) (field_ends c)

record_ends : (c : ℕ) → EndsOutside (step default_config st.StartRecord c)
record_ends c = before_picks ((c == 13) || (c == 10)) (start_field default_config c) (start_ends c)

step_ends : (s : State) (c : ℕ) → EndsOutside (step default_config s c)
step_ends st.StartRecord c = record_ends c
step_ends st.StartField c = start_ends c
step_ends st.InField c = field_ends c
step_ends st.InQuoted c = quoted_picks (c == 34)
step_ends st.AfterQuote c = quote_picks (c == 34) (in_field default_config c) (field_ends c)
step_ends st.InEscape c = λ e. cc
step_ends st.InComment c = comment_picks (c == 10)
step_ends st.AfterCr c = before_picks (c == 10) (step default_config st.StartRecord c) (record_ends c)

-- What a record leaves of a text is no more than the text, and less where it begins outside of records.

abbrev Leaves : List ℕ → Type 0
Leaves xs = (s : State) (fields : Fields) (field : List ℕ) (p : Read) → next_record default_config s fields field xs ≡ Some p → (length p.2 ≤ length xs) × (ends_at_end p.1 ≡ false)

some_is : (p q : Read) → Some p ≡ Some q → p ≡ q
some_is p q e = cc

abbrev LeavesIn : List ℕ → Read → Type 0
LeavesIn xs p = (length p.2 ≤ length xs) × (ends_at_end p.1 ≡ false)

leaves_none : Leaves []
unfolding next_record
leaves_none s fields field p e = by (ends_at_end s) e
  where
    by : (b : Bool) → ◌≡◌ {A = Option Read} (if b then Some (fields ++ (field ∷ []), st.StartRecord, []) else None) (Some p) → LeavesIn [] p
    by true h = subst (LeavesIn []) (some_is (fields ++ (field ∷ []), st.StartRecord, []) p h) (omega arith, refl)
    by false h = cc

abbrev after_step : State → ℕ → Fields → List ℕ → List ℕ → Bool → Option Read
after_step s c fields field xs true = Some (fields_after (step default_config s c).1 fields field, (step default_config s c).0, xs)
after_step s c fields field xs false = next_record default_config (step default_config s c).0 (fields_after (step default_config s c).1 fields field) (field_after (step default_config s c).1 c field) xs

stepped : (s : State) (c : ℕ) (fields : Fields) (field xs : List ℕ) (b : Bool) → is_end (step default_config s c).1 ≡ b → next_record default_config s fields field (c ∷ xs) ≡ after_step s c fields field xs b
unfolding next_record
stepped s c fields field xs true e = rw e refl
stepped s c fields field xs false e = rw e refl

leaves_after : (c : ℕ) (xs : List ℕ) → Leaves xs → (s : State) (fields : Fields) (field : List ℕ) (p : Read) → next_record default_config s fields field (c ∷ xs) ≡ Some p → LeavesIn xs p
leaves_after c xs later s fields field p e = by (is_end (step default_config s c).1) refl
  where
    by : (b : Bool) → is_end (step default_config s c).1 ≡ b → LeavesIn xs p
    by true ends = subst (LeavesIn xs) (some_is (fields_after (step default_config s c).1 fields field, (step default_config s c).0, xs) p (sym (stepped s c fields field xs true ends) ∙ e)) (omega arith, step_ends s c ends)
    by false goes = later (step default_config s c).0 (fields_after (step default_config s c).1 fields field) (field_after (step default_config s c).1 c field) p (sym (stepped s c fields field xs false goes) ∙ e)

leaves : (xs : List ℕ) → Leaves xs
leaves [] s fields field p e = leaves_none s fields field p e
leaves (c ∷ xs) s fields field p e =
    let less = leaves_after c xs (leaves xs) s fields field p e in
    (omega (arith, less.0), less.1)

leaves_less : (s : State) → ends_at_end s ≡ false → (xs : List ℕ) (p : Read) → next_record default_config s [] [] xs ≡ Some p → (length p.2 < length xs) × (ends_at_end p.1 ≡ false)
unfolding next_record
leaves_less s out [] p e = let none = rw out at e in cc
leaves_less s out (c ∷ xs) p e =
    let less = leaves_after c xs (leaves xs) s [] [] p e in
    (omega (arith, less.0), less.1)

-- What a read says of the bytes that a reader has left.

record IsOne (reader after : Reader (Bor (List ℕ))) (ys : List ℕ) (f : Fields) (zs : List ℕ) : Type 0 where
  source : source_of given after ≡ Some zs
  next : next_record default_config reader.state [] [] ys ≡ Some (f, after.state, zs)

read_is : (p : Read) (f : Fields) (s : State) (zs : List ℕ) → f ≡ p.0 → p.1 ≡ s → p.2 ≡ zs → p ≡ (f, s, zs)
read_is p f s zs a b c = rw (a, ← b, ← c) refl

read_one : (reader after : Reader (Bor (List ℕ))) (f : Fields) (ys : List ℕ) → reader.config ≡ default_config → source_of given reader ≡ Some ys → ReadRecord given reader after true f → (zs : List ℕ) × IsOne reader after ys f zs
unfolding Reached
read_one reader after f ys config source read =
    let more = rows-more given reader after f default_config reader.state ys ys [] config source (refl, refl) read in
    let found = more.2 in
    (more.0, record { source = more.1; next = found.1 ∙ ap Some (read_is found.0 f after.state more.0 found.2 found.3.0 found.3.1) })

-- the next record of those that are left
record IsTaken (rs last : List Record) (f : Fields) (s : State) (zs : List ℕ) (n : ℕ) : Type 0 where
  enough : length zs < n
  first : rs ≡ Some f ∷ (map Some (records_from default_config n s zs) ++ last)

taken : (rs last : List Record) (n : ℕ) (s t : State) (ys zs : List ℕ) (f : Fields) → length ys < n → length zs < length ys → next_record default_config s [] [] ys ≡ Some (f, t, zs)
    → rs ≡ map Some (records_from default_config n s ys) ++ last → (m : ℕ) × IsTaken rs last f t zs m
unfolding records_from
taken rs last zero s t ys zs f enough less next are = absurd (omega arith)
taken rs last (suc n) s t ys zs f enough less next are = (n, record { enough = omega arith; first = rw next at are })

known_left : (reader : Reader (Bor (List ℕ))) (ys : List ℕ) → source_of given reader ≡ Some ys → unread reader ≡ length ys
known_left reader ys e = rw e refl

told_next : (later : List Record) (count : ℕ) (before : Option Draft) (f : Fields) (draft : Draft) → judged before (Some f) ≡ Ok draft → told (Some f ∷ later) count before ≡ told later (count + 1) (Some draft)
told_next later count before f draft j = ap (λ (d : Result Draft Flaw). goes_on d (λ k. told later (count + 1) (Some k)) (count + 1)) j

-- where a reader stands that has read one record more
record IsNext (text : List ℕ) (last : List Record) (reader after : Reader (Bor (List ℕ))) (count : ℕ) (f : Fields) (zs : List ℕ) (n : ℕ) : Type 0 where
  source : source_of given after ≡ Some zs
  out : ends_at_end after.state ≡ false
  less : unread after < unread reader
  taken : IsTaken (drop count (records_of text)) last f after.state zs n

next_of : (text : List ℕ) (last : List Record) (reader after : Reader (Bor (List ℕ))) (before : Option Draft) (count : ℕ) (f : Fields) → HasRead text last reader before count → ReadRecord given reader after true f
    → (zs : List ℕ) × (n : ℕ) × IsNext text last reader after count f zs n
next_of text last reader after before count f has read =
    let left = has.left.2 in
    let ys = has.left.1 in
    let one = read_one reader after f ys has.config left.source read in
    let zs = one.0 in
    let less = leaves_less reader.state has.out ys (f, after.state, zs) one.1.next in
    let rest = taken (drop count (records_of text)) last has.left.0 reader.state after.state ys zs f left.enough less.0 one.1.next left.are in
    let u = known_left reader ys left.source in
    let v = known_left after zs one.1.source in
    (zs, rest.0, record { source = one.1.source; out = less.1; less = omega (arith, less.0); taken = rest.1 })

pub less_left : (text : List ℕ) (last : List Record) (reader after : Reader (Bor (List ℕ))) (before : Option Draft) (count : ℕ) (f : Fields) → HasRead text last reader before count → ReadRecord given reader after true f → unread after < unread reader
less_left text last reader after before count f has read = (next_of text last reader after before count f has read).2.less

-- a record that passes
pub reads_on : (text : List ℕ) (last : List Record) (reader after : Reader (Bor (List ℕ))) (before : Option Draft) (draft : Draft) (count : ℕ) (f : Fields)
    → HasRead text last reader before count → ReadRecord given reader after true f → ReadsOn reader after → judged before (Some f) ≡ Ok draft → HasRead text last after (Some draft) (count + 1)
reads_on text last reader after before draft count f has read on j =
    let next = next_of text last reader after before count f has read in
    let is = next.2 in
    let n = next.1 in
    let room = has.room in
    let less = is.less in
    let rest = map Some (records_from default_config n after.state next.0) ++ last in
    let later = after_next count (records_of text) rest (Some f) is.taken.first in
    record {
      config = on.0 ∙ has.config;
      trim = on.1 ∙ has.trim;
      ready = (on.4 has.ready).0;
      out = is.out;
      left = (n, next.0, record { enough = is.taken.enough; source = is.source; are = later });
      so_far = has.so_far ∙ ap (λ (rs : List Record). told rs count before) is.taken.first ∙ told_next rest count before f draft j ∙ ap (λ (rs : List Record). told rs (count + 1) (Some draft)) (sym later);
      version = has.version ∙ ap (λ (rs : List Record). version_left rs before) is.taken.first ∙ version_of_one before f rest draft j;
      room = omega arith;
    }

-- a record that does not
pub stops_on : (text : List ℕ) (last : List Record) (reader after : Reader (Bor (List ℕ))) (before : Option Draft) (count : ℕ) (f : Fields) (e : SetFault)
    → HasRead text last reader before count → ReadRecord given reader after true f → (e.cause ≡ Memory) ⊎ (judged before (Some f) ≡ Err (fault_in e))
    → e.number ≡ count + 1 → e.line ≡ line_of_record text (count + 1) → e.detail ≡ detail_of (Some f) (fault_in e) → TellsFault text e
stops_on text last reader after before count f e has read why number line detail =
    let next = next_of text last reader after before count f has read in
    let n = next.1 in
    let rest = map Some (records_from default_config n after.state next.0) ++ last in
    let first = next.2.taken.first in
    let stop = λ (j : judged before (Some f) ≡ Err (fault_in e)). ap (λ (d : Result Draft Flaw). goes_on d (λ k. told rest (count + 1) (Some k)) (count + 1)) j in
    let row = record_is (records_of text) rest count (Some f) first in
    record {
      fault = elim why as (λ _. (e.cause ≡ Memory) ⊎ (outcome (records_of text) ≡ Err (e.number, fault_in e))) [
        | inl m ↦ inl m
        | inr j ↦ inr (has.so_far ∙ ap (λ (rs : List Record). told rs count before) first ∙ stop j ∙ ap (λ (k : ℕ). Err (k, fault_in e)) (sym number))
      ];
      line = inr (line ∙ ap (λ (k : ℕ). line_of_record text k) (sym number));
      detail = detail ∙ ap (λ (r : Record). detail_of r (fault_in e)) (sym row) ∙ ap (λ (k : ℕ). detail_of (numbered_record (records_of text) k) (fault_in e)) (sym number);
    }

-- the end of a text
pub all_given : (text : List ℕ) (last : List Record) (reader after : Reader (Bor (List ℕ))) (draft : Option Draft) (count : ℕ) (f : Fields)
    → HasRead text last reader draft count → ReadRecord given reader after false f → Gives text last draft count
all_given text last reader after draft count f has read =
    let left = has.left.2 in
    let stop = rows-end given reader after f default_config has.left.1 has.config left.source read in
    let none = none_left has.left.0 reader.state has.left.1 stop in
    let are : drop count (records_of text) ≡ last = left.are ∙ ap (λ (rs : List Fields). map Some rs ++ last) none in
    record {
      left = are;
      set = has.so_far ∙ ap (λ (rs : List Record). told rs count draft) are;
      version = has.version ∙ ap (λ (rs : List Record). version_left rs draft) are;
    }

-- the start of a text
pub starts : (text bytes : List ℕ) (last : List Record) (reader : Reader (Bor (List ℕ))) → length bytes + 2 ≤ 2 ^ 64 → records_of text ≡ map Some (records default_config bytes) ++ last
    → IsFresh given reader bytes → reader.trim ≡ trim.None → Ready reader → HasRead text last reader None 0
unfolding outcome
starts text bytes last reader room are fresh trimmed ready' =
    let left = known_left reader bytes fresh.source in
    record {
      config = fresh.config;
      trim = trimmed;
      ready = ready';
      out = ap ends_at_end fresh.state;
      left = (length bytes + 1, bytes, record { enough = omega arith; source = fresh.source; are = are ∙ ap (λ (s : State). map Some (records_from default_config (length bytes + 1) s bytes) ++ last) (sym fresh.state) });
      so_far = refl;
      version = refl;
      room = omega arith;
    }

-- no record, no line that has one

no_parts : {A : Type 0} (xs ys : List A) → xs ++ ys ≡ [] → (xs ≡ []) × (ys ≡ [])
no_parts [] ys e = (refl, e)
no_parts (x ∷ xs) ys e = cc

pub numbered_none : (before : ℕ) (lines : List (List ℕ)) → flat_map record_of_line lines ≡ [] → numbered before lines ≡ []
numbered_none before [] e = refl
numbered_none before (line ∷ lines) e =
    let parts = no_parts (record_of_line line) (flat_map record_of_line lines) e in
    rw (parts.0) (numbered_none (before + 1) lines parts.1)

first_line : (text : List ℕ) (count : ℕ) → count ≡ 0 → drop count (records_of text) ≡ [] → 1 ≡ line_of_record text 1
first_line text count zero' none =
    let empty = numbered_none 0 (slice_split (λ b. b == 10) text) (rw zero' at none) in
    sym (ap (λ (ns : List ℕ). slice_index_or ns 0 1) empty)

pub line_of_no_record : (r : Result SetFile SetFault) (text : List ℕ) (draft : Option Draft) (count : ℕ) → Gives text [] draft count → IfNone draft (count ≡ 0) → IfErr r (λ e. (draft ≡ None) × (e.number ≡ 1) × (e.line ≡ 1))
    → IfErr r (λ e. (e.cause ≡ Memory) ⊎ (e.line ≡ line_of_record text e.number))
line_of_no_record (Ok file) text draft count given zero' h = tt
line_of_no_record (Err fault) text None count given zero' h = inr (rw (h.1, h.2) (first_line text count zero' given.left))
line_of_no_record (Err fault) text (Some draft) count given zero' h = let never = h.0 in cc

-- a line with two records follows
pub stops_twice : (text : List ℕ) (more : List Record) (draft : Option Draft) (count : ℕ) → Gives text (None ∷ more) draft count
    → TellsFault text (record { number = count + 1; line = line_of_record text (count + 1); field = None; cause = WrongFields; detail = Some Twice })
unfolding judged
stops_twice text more draft count given =
    record {
      fault = inr given.set;
      line = inr refl;
      detail = ap (λ (r : Record). detail_of r (whole WrongFields)) (sym (record_is (records_of text) more count None given.left));
    }

pub strip_less : (xs : List ℕ) → length (strip_bom xs) ≤ length xs
unfolding strip_bom
strip_less [] = omega arith
strip_less (a ∷ []) = omega arith
strip_less (a ∷ b ∷ []) = omega arith
strip_less (a ∷ b ∷ c ∷ xs) = by (is_bom a b c)
  where
    by : (mark : Bool) → length (if mark then xs else a ∷ b ∷ c ∷ xs) ≤ length (a ∷ b ∷ c ∷ xs)
    by true = omega arith
    by false = omega arith
