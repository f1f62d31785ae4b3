-- The most rows: tests 1 and 15 by the lengths, which are known without the rows.
use Prim.Native.Nat.{ℕ, ◌*◌, ◌/◌, ◌%◌}
use mathlib.Core.Path.{◌≡◌, refl}
use mathlib.Core.Bool.{Bool, false, ◌&&◌}
use mathlib.Core.List.{List}
use lib.Dec.{eqb, leb}
use lib.ListN.{replicate, length-replicate}
use Rattle.words.specs.declared.Written.TheVariants.{Refused}
use Rattle.words.specs.Tests.{first_failing}
use Rattle.calls.specs.Calls.{result_of_call}
use Rattle.tables.specs.Tables.{Tables, most_rows, column_count, lengths_right}
use Rattle.turns.specs.Opening.{open_of}
use Rattle.uploads.specs.declared.Made.TheVariants as made
use Rattle.uploads.specs.Making.{upload_right, MakeInput, make_of}
use Rattle.worked_cases.specs.Calls.{surveyed}
use Rattle.worked_limits.specs.Sizes.{zero_rows, RowLimit, UploadLimit}

-- test 1 of three lengths
abbrev fit : ℕ → ℕ → ℕ → Bool
fit rows pos osp = eqb (rows % column_count) 0 && (eqb pos (rows / column_count) && (eqb osp (rows / column_count) && leb (rows / column_count) most_rows))

lengths : (n : ℕ) → lengths_right (zero_rows n) ≡ fit (n * 4) n n
unfolding lengths_right
lengths n = simp (length-replicate)

-- a table whose lengths are wrong is refused by 1
by_one : (t : Tables) (plan state : List ℕ) → lengths_right t ≡ false → open_of (surveyed t) plan state ≡ record { answer = Refused 1; buffers = state }
unfolding result_of_call first_failing
by_one t plan state e = rw (e) refl

pub row_limit : RowLimit
row_limit = record { most = lengths 65536; more = λ plan state. by_one (zero_rows 65537) plan state (lengths 65537) }

-- test 15 of a length
uploaded : (n : ℕ) → upload_right (replicate (n * 4) 0) ≡ (eqb (n * 4 % column_count) 0 && leb (n * 4 / column_count) most_rows)
unfolding upload_right
uploaded n = simp (length-replicate)

by_fifteen : (i : MakeInput) → upload_right i.upload ≡ false → make_of i ≡ record { answer = made.Refused 15; buffers = i.buffers }
unfolding result_of_call first_failing
by_fifteen i e = rw (e) refl

pub upload_limit : UploadLimit
upload_limit = record { most = uploaded 65536; more = λ b. by_fifteen _ (uploaded 65537) }
