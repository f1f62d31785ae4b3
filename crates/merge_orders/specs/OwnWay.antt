-- The merges of a history are themselves a way of merging: one list after the other, in the order of turns. Assumes nothing: these are definitions.
use Rattle.std.specs.Prelude.{ℕ, ◌≡◌, List, length}
use Rattle.std.proofs.Math.Option.{some}
use Rattle.sequences.specs.Sequences.{numbers}
use Rattle.cuts.specs.Histories.{Phone, served_in}
use Rattle.cuts.specs.Premises.{lists_in}
use Rattle.merge_orders.specs.Ways.{Way, turns_along, given}

-- a way of merging the lists that the phone has taken, no merge of which is refused, gives the list that it keeps
pub record OwnWay (plan : List ℕ) (h : Phone) : Type 0 where
  pub way : Way
  pub turns : turns_along way ≡ numbers (length h.taken)
  pub gives : given plan (lists_in (served_in h)) way ≡ some h.kept
