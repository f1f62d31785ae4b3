-- One interface for what an ending gathers: the list of some rows, how a further list is taken, which lists are valid, and the
-- room that no row or one needs. Rows, best-of lists, groups and registers are its instances.
use Prim.Native.Nat.{ℕ, ◌≤◌, ◌<◌}
use native.Mathlib.Omega.{arith}
use mathlib.Core.Path.{◌≡◌, refl, ◌∙◌}
use mathlib.Core.Bool.{true}
use mathlib.Core.List.{List, [], ◌∷◌, ◌++◌}
use lib.ListN.{length}
use Rattle.words.specs.Bindings.{Bindings}
use Rattle.plans.specs.Endings.{Ending, rows, top, group, registers}
use Rattle.plans.proofs.Bounds.{EndingForm}
use Rattle.lists.specs.Gathering.{width, gathered, taken_into, list_right, kept_right, least_output}
use Rattle.lists.proofs.Values.{AllValues}
use Rattle.lists.proofs.TopLists.{Fine, rows_join, merge_top}
use Rattle.lists.proofs.TopValid.{right_gathered, right_merged}
use Rattle.lists.proofs.GroupLists.{merge_group}
use Rattle.lists.proofs.GroupValid.{gathered_right, merged_right}
use Rattle.lists.proofs.RegisterLists.{merge_registers, registers_gathered_right, registers_merged_right, right_kept}
use Rattle.lists.proofs.OneRow.{none_fits, none_taken, none_right, one_row_lem}

-- a list that test 12 passes; a row query's lists are joined, and not tested
abbrev pub Valid : Ending → List ℕ → Type 0
Valid (rows vs) list = Unit {0}
Valid (top k vs keys) list = list_right (top k vs keys) list ≡ true
Valid (group vs m) list = list_right (group vs m) list ≡ true
Valid (registers v) list = list_right (registers v) list ≡ true

-- and the same of a kept list
abbrev pub ValidKept : Ending → List ℕ → Type 0
ValidKept (rows vs) list = Unit {0}
ValidKept (top k vs keys) list = kept_right (top k vs keys) list ≡ true
ValidKept (group vs m) list = kept_right (group vs m) list ≡ true
ValidKept (registers v) list = kept_right (registers v) list ≡ true

-- a valid list may be kept
pub valid_kept : (e : Ending) (list : List ℕ) → Valid e list → ValidKept e list
unfolding list_right
valid_kept (rows vs) list h = tt
valid_kept (top k vs keys) list h = h
valid_kept (group vs m) list h = h
valid_kept (registers v) list h = right_kept list h

pub record Gathering (e : Ending) : Type 0 where
  -- an output that test 7 passes has room for the list of no rows, and an empty kept list is taken as that is
  pub none : (threshold : List ℕ) → length (gathered e threshold []) ≤ least_output e
  pub starts : (list : List ℕ) → taken_into e [] list ≡ taken_into e (gathered e [] []) list
  -- the list of some rows, and then that of further ones, make the list of all: with no threshold, and with one that leaves out
  -- none of the best
  pub adds : (threshold : List ℕ) (xs ys : List Bindings) → Fine e xs threshold
      → taken_into e (gathered e [] xs) (gathered e threshold ys) ≡ gathered e [] (xs ++ ys)
  -- what is gathered of rows of values is valid, and valid lists make a valid one
  pub valid : (threshold : List ℕ) (bs : List Bindings) → AllValues bs → Valid e (gathered e threshold bs)
  pub stays : (kept list : List ℕ) → Valid e kept → Valid e list → Valid e (taken_into e kept list)
  -- an output that test 7 passes has room for a row
  pub room : (threshold : List ℕ) (b : Bindings) → length (gathered e threshold (b ∷ [])) ≤ least_output e

-- the ending of a plan that was read has it
pub gathering : (e : Ending) → EndingForm e → Gathering e
gathering (rows vs) f =
    record {
      none = none_fits (rows vs);
      starts = none_taken (rows vs);
      adds = λ threshold xs ys h. rows_join vs xs ys threshold;
      valid = λ threshold bs h. tt;
      stays = λ kept list p q. tt;
      room = one_row_lem (rows vs);
    }
gathering (top k vs keys) f =
    record {
      none = none_fits (top k vs keys);
      starts = none_taken (top k vs keys);
      adds = merge_top k vs keys f.row.least;
      valid = right_gathered k vs keys;
      stays = right_merged k vs keys;
      room = one_row_lem (top k vs keys);
    }
gathering (group vs m) f =
    record {
      none = none_fits (group vs m);
      starts = none_taken (group vs m);
      adds = λ threshold xs ys h. merge_group vs m xs ys threshold;
      valid = gathered_right vs m;
      stays = merged_right vs m;
      room = one_row_lem (group vs m);
    }
gathering (registers v) f =
    record {
      none = none_fits (registers v);
      starts = none_taken (registers v);
      adds = λ threshold xs ys h. merge_registers v xs ys threshold;
      valid = λ threshold bs h. registers_gathered_right v threshold bs;
      stays = registers_merged_right v;
      room = one_row_lem (registers v);
    }

-- no list yet is a valid one to keep
pub none_kept_lem : (e : Ending) → EndingForm e → ValidKept e []
none_kept_lem (rows vs) f = tt
none_kept_lem (top k vs keys) f = none_right (top k vs keys) ∙ (gathering (top k vs keys) f).valid [] [] tt
none_kept_lem (group vs m) f = none_right (group vs m) ∙ (gathering (group vs m) f).valid [] [] tt
none_kept_lem (registers v) f = refl

-- its records have some words
pub some_width : (e : Ending) → EndingForm e → 0 < width e
some_width (rows vs) f = f.least
some_width (top k vs keys) f = f.row.least
some_width (group vs m) f = omega arith
some_width (registers v) f = omega arith
