use Rattle.std.proofs.Common.{◌≡◌, ◌-◌, ◌*◌, drop}
use Rattle.terminals.specs.Names.{nothing, last_declared}
use Rattle.terminal_names.specs.Declaring.{declared_at, declared_first}
use Rattle.terminal_names.proofs.declared_at.Given as goal

abbrev pub invariant-loop-i : goal.invariant-loop-i
invariant-loop-i l =
    last_declared (declared_first l.points l.count l.tokens) l.prefix nothing
    ≡ last_declared (declared_first l.points (l.count - l.i) (drop (9 * l.i) l.tokens)) l.prefix (declared_at l.points l.tokens l.found)
