-- The two cases hold, by computation.
use native.Mathlib.Omega.{arith}
use mathlib.Core.Path.{◌≡◌, refl, ap}
use mathlib.Core.List.{flatten}
use lib.ListN.{get_or}
use Rattle.words.specs.Computing as words
use Rattle.plans.specs.Computing as plans
use Rattle.lists.specs.Computing as lists
use Rattle.calls.specs.Calls.{result_of_call}
use Rattle.words.specs.Words.{name}
use Rattle.words.proofs.Testing.{some_injective}
use Rattle.merge_orders.specs.Ways.{given}
use Rattle.merge_orders.specs.Needed.{TiedDiffer, OneRefused}

unfoldable computing : Unit {0}
unfolding words.computing plans.computing lists.computing result_of_call flatten given
computing = tt

pub tied_differ : TiedDiffer
unfolding computing
tied_differ =
    record {
      in_order = refl;
      turned = refl;
      differ = λ e. let z : name 2 ≡ name 3 = ap (λ l. get_or l 0 0) (some_injective e) in omega arith;
    }

pub one_refused : OneRefused
unfolding computing
one_refused = record { from_left = refl; from_right = refl }
