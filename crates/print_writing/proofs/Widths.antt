-- How wide the rows or records of a plan's lists are.
use Prim.Native.Nat.{ℕ, ◌≤◌}
use native.Mathlib.Omega.{arith}
use mathlib.Core.Path.{◌≡◌, refl, subst⁻¹}
use mathlib.Core.Bool.{true}
use mathlib.Core.List.{List}
use lib.ListN.{length}
use Rattle.plans.specs.declared.EndingKind.{EndingKind}
use Rattle.plans.specs.declared.EndingKind.TheVariants.{Rows, Top, Group, Registers, Invalid}
use Rattle.plans.specs.Endings.{Ending, rows, top, group, registers, most_row_variables}
use Rattle.plans.specs.Plans.{read_plan, has_form, plan_of}
use Rattle.plans.specs.Reading.{ending_kind_in, variables_in}
use Rattle.plans.proofs.Bounds.{EndingForm, plan_form, was_read}
use Rattle.lists.specs.Gathering.{width}
use Rattle.print_writing.specs.declared.Listing.{Listing}
use Rattle.print_writing.specs.Listings.{ListsOf, width_of, HasWidth}

pub ending_form_lem : (plan : List ℕ) → has_form (read_plan plan) ≡ true → EndingForm (plan_of plan).ending
ending_form_lem plan h = (plan_form plan (plan_of plan) (was_read (read_plan plan) h)).ending

-- an ending names at most 16 variables, and they make its width
pub few_variables : (e : Ending) → EndingForm e → length (variables_in e) ≤ most_row_variables
few_variables (rows vs) f = f.most
few_variables (top k vs keys) f = f.row.most
few_variables (group vs m) f = omega (arith, f.most)
few_variables (registers v) f = omega arith

pub width_of_lem : (e : Ending) → width_of (ending_kind_in e) (length (variables_in e)) ≡ width e
width_of_lem (rows vs) = refl
width_of_lem (top k vs keys) = refl
width_of_lem (group vs m) = refl
width_of_lem (registers v) = refl

has_width : (e : Ending) → EndingForm e → HasWidth (ending_kind_in e) (width e)
has_width (rows vs) f = (f.least, f.most)
has_width (top k vs keys) f = (f.row.least, f.row.most)
has_width (group vs m) f = let l = f.most in (omega arith, omega arith)
has_width (registers v) f = refl

pub lists_width : (plan : List ℕ) (lists : Listing) → ListsOf plan lists → HasWidth lists.kind lists.width
lists_width plan lists h =
    subst⁻¹ (λ (l : Listing). HasWidth l.kind l.width) h.1 (has_width (plan_of plan).ending (ending_form_lem plan h.0))

-- a row or record has some words, at most 16
pub some_words : (k : EndingKind) (n : ℕ) → HasWidth k n → (1 ≤ n) × (n ≤ most_row_variables)
some_words Rows n h = h
some_words Top n h = h
some_words Group n h = (omega (arith, h.0), omega (arith, h.1))
some_words Registers n h = (omega (arith, h), omega (arith, h))
some_words Invalid n h = absurd h
