-- `is_key_among` meets its contract: the variable with the key's number is looked for.
use mathlib.Core.Path.{◌≡◌, ◌∙◌}
use native.Mathlib.Omega.{arith}
use Prim.Native.Nat.{◌%◌}
use Rattle.words.specs.Words.{term_values, low}
use Rattle.plans.proofs.Chains.{any_member}
use Rattle.plan_ending_variables.proofs.is_key_among.Goals as goal

pub returns : goal.returns
returns c =
    let k = c.args.key in
    let e : low k % term_values ≡ low k = omega arith in
    c.contains.ensures.value ∙ any_member _ c.args.list.now ∙ rw (c.variable.ensures, c.low.ensures, e)
