-- `Term::key_rank` meets its contract: the laws of the order of keys. Assumes nothing.
use mathlib.Core.Path.{sym}
use native.Mathlib.Omega.{arith}
use Rattle.words.proofs.Ranks.{rank_bound, rank_unbound, rank_below, key_word}
use Rattle.words.proofs.Term.key_rank.Goals as goal

pub overflow_add-result : goal.overflow_add-result
overflow_add-result c =
    let w = c.args.self.0 in
    let e = key_word w (omega arith) in
    let l = rank_below w in
    omega arith

pub returns-then-self-lt-UNBOUND : goal.returns-then-self-lt-UNBOUND
returns-then-self-lt-UNBOUND c =
    let w = c.args.self.0 in
    let e = key_word w (omega arith) in
    let l = rank_below w in
    let r = rank_bound w (omega arith) in
    (omega arith, omega arith)

pub returns-else-self-lt-UNBOUND : goal.returns-else-self-lt-UNBOUND
returns-else-self-lt-UNBOUND c = (sym (rank_unbound c.args.self.0 (omega arith) (omega arith)), omega arith)
