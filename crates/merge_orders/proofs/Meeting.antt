-- The premises are met, by computation.
use mathlib.Core.Path.{refl, sym}
use mathlib.Core.Logic.{inl, inr}
use mathlib.Core.List.Permᴰ
use mathlib.Core.List.{[], ◌∷◌, flatten}
use Rattle.words.specs.Computing as words
use Rattle.plans.specs.Computing as plans
use Rattle.registers.specs.Computing as registers
use Rattle.lists.specs.Computing as lists
use Rattle.calls.specs.Calls.{result_of_call}
use Rattle.sequences.specs.Sequences.{numbers}
use Rattle.words.specs.Words.{variable, word, falling_kind}
use Rattle.merge_orders.specs.Ways.{empty, turn, into, turns_along, given}
use Rattle.merge_orders.specs.Refused.{among_kept, among_lists, merging, from_turns}
use Rattle.merge_orders.specs.Needed.{record_of}
use Rattle.merge_orders.specs.Meeting.{in_turn, turned, behind, best_pair, PremisesMet, AnyOrderTold, words16, RegistersMet, RefusalsMet}

unfoldable computing : Unit {0}
unfolding words.computing plans.computing registers.computing lists.computing result_of_call flatten given turns_along from_turns numbers
computing = tt

pub premises_met : PremisesMet
unfolding computing
premises_met =
    let back = Permᴰ.trans (Permᴰ.swap refl refl)
    (Permᴰ.trans (Permᴰ.cons refl (Permᴰ.swap refl refl)) (Permᴰ.swap refl refl)) in
    record {
      reordered = record { first = refl; second = refl; turns = back };
      once = back;
      some_once = record { there = refl; once = refl };
      apart = ((inr refl, (inl refl, tt)), ((inl refl, tt), (tt, tt)));
      best = (refl, refl);
      total = (refl, refl);
      nothing = (refl, refl);
    }

pub told : AnyOrderTold
unfolding computing
told =
    let vs = variable 0 ∷ variable 1 ∷ [] in
    let keys = word falling_kind 1 ∷ [] in
    record {
      best = λ o a e. sym (o.tops 2 vs keys refl in_turn turned premises_met.reordered premises_met.apart best_pair a premises_met.best.0 e);
      total = λ o a e.
          sym (o.groups [] (variable 1) refl in_turn turned premises_met.reordered (record_of 1 0) a premises_met.total.0 e);
      grouped = λ o a e.
          sym
          (o.grouped 2 vs keys refl in_turn (into (turn 0) behind (into (turn 1) behind (turn 2))) refl refl refl best_pair a premises_met.best.0 e);
    }

pub registers_met : RegistersMet
unfolding computing
registers_met =
    record {
      in_order = refl;
      turned = refl;
      empty_kept = refl;
      empty_lent = refl;
      told = λ o a e.
          sym
          (o.registers (variable 1) refl (into (into empty words16 (turn 0)) [] (turn 1)) (into (turn 1) [] (turn 0))
          (record { first = refl; second = refl; turns = Permᴰ.swap refl refl }) _ a refl e);
    }

pub refusals_met : RefusalsMet
unfolding computing
refusals_met =
    record {
      total = among_kept (merging _ _ refl refl refl);
      group_room = among_lists (merging _ _ refl refl refl);
      best_room = merging _ _ refl refl refl;
      registers_room = among_kept (merging _ _ refl refl refl);
      of_turns_fact = refl;
      empty_lent_fact = merging _ _ refl refl refl;
      no_turns = refl;
    }
