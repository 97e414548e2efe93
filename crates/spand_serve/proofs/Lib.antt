-- For what a served day tells in the end.
mod Facts
