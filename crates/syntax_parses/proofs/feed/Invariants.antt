use Rattle.std.proofs.Common.{◌≡◌, ◌+◌, ◌≤◌, ◌%◌, length, take, drop}
use Rattle.syntax.specs.Machine.{fed_to}
use Rattle.syntax_parses.proofs.feed.Given as goal

abbrev pub invariant-loop-at : goal.invariant-loop-at
invariant-loop-at l = record {
  same_stack : length l.stack ≡ length l.initial.stack;
  same_room : length l.out ≡ length l.initial.out;
  few : l.m + l.top ≤ l.wrote + l.at;
  same_end : fed_to (l.token % 128) l.token (drop l.at l.stack) (take l.m l.out)
      ≡ fed_to (l.token % 128) l.token (drop l.top l.initial.stack) (take l.wrote l.initial.out);
}
