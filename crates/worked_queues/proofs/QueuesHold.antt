-- Every case of the tables of queues holds, by computation.
use mathlib.Core.Path.{◌≡◌, refl}
use mathlib.Core.List.{map}
use Rattle.worked_queues.specs.QueueCases.{QueueCase, queue_outcome}
use Rattle.worked_queues.specs.Queues.{of_queues}
use Rattle.worked_cases.proofs.Holds.{computing}

-- what the calls of the table leave is what it says
pub of_queues_hold : map (λ (c : QueueCase). queue_outcome c.0) of_queues ≡ map (λ (c : QueueCase). c.1) of_queues
unfolding computing
of_queues_hold = refl
