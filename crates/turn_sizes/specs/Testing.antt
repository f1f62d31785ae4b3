-- What the code finds of the tests of a turn. Assumes nothing: these are definitions.
use Rattle.std.specs.Prelude.{ℕ, Bool, cond}

-- the number of the first of tests 7 and 8 that fails, 0 where both pass
abbrev pub size_number : Bool → Bool → ℕ
size_number room quantum = cond room (cond quantum 0 8) 7

-- the number of the first of tests 9, 22, 10 and 11 that fails, 0 where all pass
abbrev pub late_number : Bool → Bool → Bool → Bool → ℕ
late_number shape survey places threshold = cond shape (cond survey (cond places (cond threshold 0 11) 10) 22) 9

-- the number of the first of an opening's tests 7 and 22 that fails, 0 where both pass
abbrev pub start_number : Bool → Bool → ℕ
start_number room number = cond room (cond number 0 22) 7
