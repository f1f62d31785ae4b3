-- Every case of the tables of registers and of reports holds, by computation; and a query cut after its first step keeps the registers of the whole.
use mathlib.Core.Path.{◌≡◌, refl}
use mathlib.Core.List.{[], ◌∷◌, map}
use Rattle.registers.specs.Registers.{registers_of}
use Rattle.cuts.specs.Computing as cuts
use Rattle.worked_cases.specs.Calls.{Hold}
use Rattle.worked_cases.proofs.Holds.{computing}
use Rattle.worked_cases.proofs.ByOutcomes.{by_outcomes}
use Rattle.worked_values.specs.Registers.{forms, register_lists, mergings, cut_at_one, played, done_after_four}
use Rattle.worked_values.specs.Reports.{far_out, far_number, of_five, wide_words, of_wide_words, of_reports}

-- ---- single values
pub far_out_lem : registers_of (0x0000FECF ∷ []) ≡ far_out
unfolding computing
far_out_lem = refl

-- the whole word is hashed, and not its value alone
pub far_number_lem : registers_of (0x4000FECF ∷ []) ≡ far_number
unfolding computing
far_number_lem = refl

pub five_name : registers_of (0x00000005 ∷ []) ≡ of_five
unfolding computing
five_name = refl

pub five_number : registers_of (0x40000005 ∷ []) ≡ of_five
unfolding computing
five_number = refl

pub five_text : registers_of (0x80000005 ∷ []) ≡ of_five
unfolding computing
five_text = refl

-- each of the four bytes is read where it stands
pub wide_words_lem : map (λ w. registers_of (w ∷ [])) wide_words ≡ of_wide_words
unfolding computing
wide_words_lem = refl

-- ---- tables
pub forms_hold : Hold forms
unfolding computing
forms_hold = by_outcomes forms refl

pub lists_hold : Hold register_lists
unfolding computing
lists_hold = by_outcomes register_lists refl

pub mergings_hold : Hold mergings
unfolding computing
mergings_hold = by_outcomes mergings refl

pub reports_hold : Hold of_reports
unfolding computing
reports_hold = by_outcomes of_reports refl

-- ---- cut after one step
pub registers_cut : played cut_at_one ≡ done_after_four
unfolding computing cuts.computing
registers_cut = refl
