-- `write_pair` meets its contract: the node, and two comparisons behind it.
use Prim.Native.Nat.{◌+◌}
use mathlib.Core.Path.{◌≡◌}
use mathlib.Core.List.{[], ◌∷◌}
use native.Mathlib.Omega.{arith}
use Rattle.plans.specs.Conditions.{compared}
use Rattle.plans.specs.Grammar.{condition_words}
use Rattle.constants.proofs.Appending.{comparison_length, more_appended}
use Rattle.constants.proofs.write_pair.Goals as goal

pub write_comparison-second-requires : goal.write_comparison-second-requires
write_comparison-second-requires c =
    let z : c.write_word-first.result ≡ c.args.at + 1 = c.write_word-first.ensures.0 in
    (omega (arith, z, c.write_word-first.ensures.1), omega arith)

pub write_comparison-requires : goal.write_comparison-requires
write_comparison-requires c =
    let a = c.args in
    let z : c.write_word-first.result ≡ a.at + 1 = c.write_word-first.ensures.0 in
    let n = comparison_length a.o a.x 0x40000000 in
    (omega (arith, z, n, c.write_word-first.ensures.1, c.write_comparison-second.ensures.0, c.write_comparison-second.ensures.1), omega arith)

pub returns : goal.returns
returns c =
    let a = c.args in
    let zero = condition_words (compared a.o a.x 0x40000000) in
    let one = condition_words (compared a.o a.x 0x40000001) in
    more_appended a.out.now a.at (a.w ∷ zero) one c.write_comparison-second.new.out c.write_comparison.new.out c.write_comparison-second.result
    c.write_comparison.result
    (more_appended a.out.now a.at (a.w ∷ []) zero c.write_word-first.new.out c.write_comparison-second.new.out c.write_word-first.result
    c.write_comparison-second.result c.write_word-first.ensures c.write_comparison-second.ensures) c.write_comparison.ensures
