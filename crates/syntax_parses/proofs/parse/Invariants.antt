use Rattle.std.proofs.Common.{◌≡◌, ◌+◌, ◌-◌, ◌*◌, ◌≤◌, [], ◌∷◌, length, take, drop}
use Rattle.syntax.specs.Kinds.{query_symbol}
use Rattle.syntax.specs.Machine.{parsed}
use Rattle.syntax_parses.proofs.parse.Given as goal

abbrev pub invariant-loop-t : goal.invariant-loop-t
invariant-loop-t l = record {
  within : l.fed.top ≤ length l.initial.stack;
  high : 8 * (length l.tokens - l.t-index) ≤ l.fed.top;
  room : l.fed.wrote + length l.initial.stack + 8 * (length l.tokens - l.t-index) ≤ length l.initial.out + l.fed.top;
  same_stack : length l.stack ≡ length l.initial.stack;
  same_room : length l.out ≡ length l.initial.out;
  same_end : parsed (drop l.t-index l.tokens) (drop l.fed.top l.stack) (take l.fed.wrote l.out) ≡ parsed l.tokens (query_symbol ∷ []) [];
}
