-- `finish` meets its contract: the state that is left is saved.
use Rattle.turn_calls.proofs.turning.finish.Goals as goal

pub returns : goal.returns
returns c =
    (rw (← c.save_left-saved.ensures.0), c.save_left-saved.ensures.1)
