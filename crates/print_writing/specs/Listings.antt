-- What the printer knows of a plan's lists: what they hold, and in how many words.
-- Assumes nothing: these are definitions.
use Rattle.std.specs.Prelude.{ℕ, ◌+◌, ◌≤◌, ◌≡◌, true, List}
use Rattle.plans.specs.declared.EndingKind.{EndingKind}
use Rattle.plans.specs.declared.EndingKind.TheVariants.{Rows, Top, Group, Registers, Invalid}
use Rattle.plans.specs.Endings.{Ending, most_row_variables, most_group_variables}
use Rattle.plans.specs.Plans.{read_plan, has_form, plan_of}
use Rattle.plans.specs.Reading.{ending_kind_in}
use Rattle.registers.specs.Registers.{register_count}
use Rattle.lists.specs.Groups.{totals_width}
use Rattle.lists.specs.Gathering.{width}
use Rattle.print_writing.specs.declared.Listing.{Listing}

-- what the lists of an ending hold
abbrev pub listing_of : Ending → Listing
listing_of e = record { kind = ending_kind_in e; width = width e }

-- of a plan that has the form
abbrev pub ListsOf : List ℕ → Listing → Type 0
ListsOf plan lists = (has_form (read_plan plan) ≡ true) × (lists ≡ listing_of (plan_of plan).ending)

-- the words of a row or record with `n` variables, or of all registers
abbrev pub width_of : EndingKind → ℕ → ℕ
width_of Rows n = n
width_of Top n = n
width_of Group n = n + totals_width
width_of Registers n = register_count
width_of Invalid n = 0

-- ---- how wide a row or record is
-- a row of 1 to 16 terms
abbrev pub IsRow : ℕ → Type 0
IsRow n = (1 ≤ n) × (n ≤ most_row_variables)

-- a record of at most 4 keys
abbrev pub IsRecord : ℕ → Type 0
IsRecord n = (totals_width ≤ n) × (n ≤ most_group_variables + totals_width)

-- by what a list holds; no list holds neither
abbrev pub HasWidth : EndingKind → ℕ → Type 0
HasWidth Rows n = IsRow n
HasWidth Top n = IsRow n
HasWidth Group n = IsRecord n
HasWidth Registers n = n ≡ register_count
HasWidth Invalid n = ⊥
