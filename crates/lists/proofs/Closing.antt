-- Closed lists, of every ending: what done adds to a list keeps it valid and within the room that test 7 asks for, and the list of further rows,
-- closed or not, taken behind the list of some rows, is the list of all of them.
use Prim.Native.Nat.{ℕ, ◌≤◌}
use native.Mathlib.Omega.{arith}
use mathlib.Core.Path.{◌≡◌, refl, sym, ◌∙◌, ap, ap₂}
use mathlib.Core.Bool.{Bool, true, false}
use mathlib.Core.List.{List, [], ◌∷◌, ◌++◌}
use lib.ListN.{length}
use Rattle.words.specs.Bindings.{Bindings}
use Rattle.sequences.specs.Sequences.{all}
use Rattle.plans.specs.Endings.{Ending, rows, top, group, registers}
use Rattle.plans.proofs.Bounds.{EndingForm}
use Rattle.lists.specs.Groups.{add_groups}
use Rattle.lists.specs.Gathering.{gathered, least_output, taken_into, group_fits, totals_fit, rows_fit}
use Rattle.lists.specs.Closing.{closed, list_at}
use Rattle.lists.proofs.Values.{AllValues}
use Rattle.lists.proofs.TopLists.{Fine}
use Rattle.lists.proofs.GroupLists.{groups_in_gathered, groups_append}
use Rattle.lists.proofs.GroupBounds.{most_rows, groups_fit}
use Rattle.lists.proofs.ClosedGroups.{merge_closed, fits_closed, closed_right, length_closed}
use Rattle.lists.proofs.Gatherings.{Valid, gathering}

-- ---- what done does not change: rows, best-of lists and registers
pub rows_closed : (vs list : List ℕ) → closed (rows vs) list ≡ list
unfolding closed
rows_closed vs list = refl

pub top_closed : (k : ℕ) (vs keys list : List ℕ) → closed (top k vs keys) list ≡ list
unfolding closed
top_closed k vs keys list = refl

pub registers_closed : (v : ℕ) (list : List ℕ) → closed (registers v) list ≡ list
unfolding closed
registers_closed v list = refl

-- and groups by one variable or more
pub groups_closed : (v : ℕ) (vs : List ℕ) (m : ℕ) (list : List ℕ) → closed (group (v ∷ vs) m) list ≡ list
unfolding closed
groups_closed v vs m list = refl

-- so a list of rows, a best-of list or one of registers is the same at done and before
at_same : (e : Ending) (threshold : List ℕ) (done : Bool) (bs : List Bindings)
    → closed e (gathered e threshold bs) ≡ gathered e threshold bs → list_at e threshold done bs ≡ gathered e threshold bs
at_same e threshold true bs p = p
at_same e threshold false bs p = refl

pub rows_at : (vs threshold : List ℕ) (done : Bool) (bs : List Bindings) → list_at (rows vs) threshold done bs ≡ gathered (rows vs) threshold bs
rows_at vs threshold done bs = at_same (rows vs) threshold done bs (rows_closed vs _)

pub top_at : (k : ℕ) (vs keys threshold : List ℕ) (done : Bool) (bs : List Bindings)
    → list_at (top k vs keys) threshold done bs ≡ gathered (top k vs keys) threshold bs
top_at k vs keys threshold done bs = at_same (top k vs keys) threshold done bs (top_closed k vs keys _)

pub registers_at : (v : ℕ) (threshold : List ℕ) (done : Bool) (bs : List Bindings)
    → list_at (registers v) threshold done bs ≡ gathered (registers v) threshold bs
registers_at v threshold done bs = at_same (registers v) threshold done bs (registers_closed v _)

-- ---- room: a closed list is no shorter, and an output that test 7 passes has room for it
pub closed_room : (e : Ending) (threshold : List ℕ) (bs : List Bindings) (room : ℕ) → least_output e ≤ room
    → length (gathered e threshold bs) ≤ room → length (closed e (gathered e threshold bs)) ≤ room
closed_room (rows vs) threshold bs room l f = omega (arith, ap length (rows_closed vs (gathered (rows vs) threshold bs)))
closed_room (top k vs keys) threshold bs room l f = omega (arith, ap length (top_closed k vs keys (gathered (top k vs keys) threshold bs)))
closed_room (group [] m) threshold bs room l f = omega (arith, length_closed m threshold bs)
closed_room (group (v ∷ vs) m) threshold bs room l f =
    omega (arith, ap length (groups_closed v vs m (gathered (group (v ∷ vs) m) threshold bs)))
closed_room (registers v) threshold bs room l f = omega (arith, ap length (registers_closed v (gathered (registers v) threshold bs)))

pub closed_longer : (e : Ending) (list : List ℕ) → length list ≤ length (closed e list)
unfolding closed
closed_longer (rows vs) list = omega arith
closed_longer (top k vs keys) list = omega arith
closed_longer (group [] m) [] = omega arith
closed_longer (group [] m) (w ∷ ws) = omega arith
closed_longer (group (v ∷ vs) m) list = omega arith
closed_longer (registers v) list = omega arith

pub at_room : (e : Ending) (threshold : List ℕ) (done : Bool) (bs : List Bindings) (room : ℕ) → least_output e ≤ room
    → length (gathered e threshold bs) ≤ room → length (list_at e threshold done bs) ≤ room
at_room e threshold true bs room l f = closed_room e threshold bs room l f
at_room e threshold false bs room l f = f

pub at_longer : (e : Ending) (threshold : List ℕ) (done : Bool) (bs : List Bindings)
    → length (gathered e threshold bs) ≤ length (list_at e threshold done bs)
at_longer e threshold true bs = closed_longer e (gathered e threshold bs)
at_longer e threshold false bs = omega arith

-- ---- taking
closed_adds : (e : Ending) → EndingForm e → (threshold : List ℕ) (xs ys : List Bindings) → Fine e xs threshold
    → taken_into e (gathered e [] xs) (closed e (gathered e threshold ys)) ≡ closed e (gathered e [] (xs ++ ys))
unfolding closed
closed_adds (rows vs) f threshold xs ys h = (gathering (rows vs) f).adds threshold xs ys h
closed_adds (top k vs keys) f threshold xs ys h = (gathering (top k vs keys) f).adds threshold xs ys h
closed_adds (group [] m) f threshold xs ys h = merge_closed m threshold xs ys
closed_adds (group (v ∷ vs) m) f threshold xs ys h = (gathering (group (v ∷ vs) m) f).adds threshold xs ys h
closed_adds (registers v) f threshold xs ys h = (gathering (registers v) f).adds threshold xs ys h

-- the list of some rows, and then that of further ones, at done or before, make the list of all there
pub at_adds : (e : Ending) → EndingForm e → (threshold : List ℕ) (done : Bool) (xs ys : List Bindings) → Fine e xs threshold
    → taken_into e (gathered e [] xs) (list_at e threshold done ys) ≡ list_at e [] done (xs ++ ys)
at_adds e f threshold true xs ys h = closed_adds e f threshold xs ys h
at_adds e f threshold false xs ys h = (gathering e f).adds threshold xs ys h

-- ---- test 12
closed_valid : (e : Ending) → EndingForm e → (threshold : List ℕ) (bs : List Bindings) → AllValues bs → Valid e (closed e (gathered e threshold bs))
unfolding closed
closed_valid (rows vs) f threshold bs h = tt
closed_valid (top k vs keys) f threshold bs h = (gathering (top k vs keys) f).valid threshold bs h
closed_valid (group [] m) f threshold bs h = closed_right m threshold bs h
closed_valid (group (v ∷ vs) m) f threshold bs h = (gathering (group (v ∷ vs) m) f).valid threshold bs h
closed_valid (registers v) f threshold bs h = (gathering (registers v) f).valid threshold bs h

pub at_valid : (e : Ending) → EndingForm e → (threshold : List ℕ) (done : Bool) (bs : List Bindings) → AllValues bs
    → Valid e (list_at e threshold done bs)
at_valid e f threshold true bs h = closed_valid e f threshold bs h
at_valid e f threshold false bs h = (gathering e f).valid threshold bs h

-- ---- test 13 of two lists, the second at done or before, is that of the rows of both: the sums of either fit, so that they are read back
both_fit_lem : (e : Ending) (threshold : List ℕ) (xs ys : List Bindings) → rows_fit e xs ≡ true → rows_fit e ys ≡ true
    → totals_fit e (gathered e [] xs) (gathered e threshold ys) ≡ rows_fit e (xs ++ ys)
unfolding totals_fit
both_fit_lem (rows vs) threshold xs ys f g = refl
both_fit_lem (top k vs keys) threshold xs ys f g = refl
both_fit_lem (group vs m) threshold xs ys f g =
    ap (all group_fits)
    (ap₂ add_groups (groups_in_gathered vs m [] xs f) (groups_in_gathered vs m threshold ys g) ∙ sym (groups_append vs m xs ys))
both_fit_lem (registers v) threshold xs ys f g = refl

closed_fit : (e : Ending) (threshold : List ℕ) (xs ys : List Bindings) → rows_fit e xs ≡ true → rows_fit e ys ≡ true
    → totals_fit e (gathered e [] xs) (closed e (gathered e threshold ys)) ≡ rows_fit e (xs ++ ys)
unfolding closed
closed_fit (rows vs) threshold xs ys f g = both_fit_lem (rows vs) threshold xs ys f g
closed_fit (top k vs keys) threshold xs ys f g = both_fit_lem (top k vs keys) threshold xs ys f g
closed_fit (group [] m) threshold xs ys f g = fits_closed m threshold xs ys f g
closed_fit (group (v ∷ vs) m) threshold xs ys f g = both_fit_lem (group (v ∷ vs) m) threshold xs ys f g
closed_fit (registers v) threshold xs ys f g = both_fit_lem (registers v) threshold xs ys f g

pub at_fit : (e : Ending) (threshold : List ℕ) (done : Bool) (xs ys : List Bindings) → rows_fit e xs ≡ true → rows_fit e ys ≡ true
    → totals_fit e (gathered e [] xs) (list_at e threshold done ys) ≡ rows_fit e (xs ++ ys)
at_fit e threshold true xs ys f g = closed_fit e threshold xs ys f g
at_fit e threshold false xs ys f g = both_fit_lem e threshold xs ys f g

-- the rows of a turn are so few that their totals fit
pub few_fit : (e : Ending) (bs : List Bindings) → length bs ≤ most_rows → rows_fit e bs ≡ true
few_fit (rows vs) bs h = refl
few_fit (top k vs keys) bs h = refl
few_fit (group vs m) bs h = groups_fit vs m bs h
few_fit (registers v) bs h = refl
