-- `read_tokens` meets its contract. The invariant: what is written and the tokens from a place on, where no blank stands, are the whole.
use Rattle.sequences.proofs.Growing.{written_all}
use Rattle.tokens.specs.Tokens.{tokens_from, tokens_of}
use Rattle.tokens.specs.TokenWords.{kind_number, token_words}
use Rattle.tokens.proofs.Passing.{skipped_blanks, skipped_tokens, token_span, tokens_next, tokens_over}
use Rattle.token_passes.proofs.ThreeWords.{three_long, three_written, three_behind}
use Prim.Native.Nat.{◌+◌, ◌≤◌, ◌<◌}
use native.Mathlib.Nat.{add-zero}
use mathlib.Core.Path.{refl, sym, ap, ◌∙◌}
use mathlib.Core.List.{[], ◌∷◌, ◌++◌, append-nil}
use native.Mathlib.Omega.{arith}
use lib.ListN.{length, take, drop}
use Rattle.token_passes.proofs.read_tokens.Goals as goal

pub loop-at-init : goal.loop-at-init
loop-at-init c =
    let p = c.args.points.now in (
      c.skip_blanks-at.ensures.1,
      omega arith,
      refl,
      skipped_blanks p 0 c.skip_blanks-at.result c.skip_blanks-at.ensures.0,
      ap token_words (skipped_tokens p 0 c.skip_blanks-at.result c.skip_blanks-at.ensures.0),
      refl,
    )

pub write_token-requires : goal.write_token-requires
write_token-requires c =
    let a = c.args in
    let p = a.points.now in
    let at = c.loop-at.at in
    let n = c.loop-at.n in
    let q = token_span p at (omega arith) c.read_token-t.result c.read_token-t.ensures in
    (omega (arith, c.requires.2, c.loop-at.invariant.1, c.loop-at.invariant.2), omega (arith, q.2, c.requires.0), omega (arith, q.2, c.requires.0))

pub overflow_add-t : goal.overflow_add-t
overflow_add-t c =
    let a = c.args in
    let p = a.points.now in
    let at = c.loop-at.at in
    let n = c.loop-at.n in
    let q = token_span p at (omega arith) c.read_token-t.result c.read_token-t.ensures in
    omega (arith, q.2)

pub skip_blanks-at-requires-in-loop-at : goal.skip_blanks-at-requires-in-loop-at
skip_blanks-at-requires-in-loop-at c =
    let a = c.args in
    let p = a.points.now in
    let at = c.loop-at.at in
    let n = c.loop-at.n in
    (token_span p at (omega arith) c.read_token-t.result c.read_token-t.ensures).2

pub loop-at-smaller : goal.loop-at-smaller
loop-at-smaller c =
    let a = c.args in
    let p = a.points.now in
    let at = c.loop-at.at in
    let n = c.loop-at.n in
    let q = token_span p at (omega arith) c.read_token-t.result c.read_token-t.ensures in
    let next = c.skip_blanks-at-in-loop-at.ensures in
    omega (arith, q.0, q.1, next.0, next.1)

pub loop-at-preserved : goal.loop-at-preserved
loop-at-preserved c =
    let a = c.args in
    let p = a.points.now in
    let at = c.loop-at.at in
    let n = c.loop-at.n in
    let b = c.loop-at.tokens in
    let i = c.loop-at.invariant in
    let t = c.read_token-t.result in
    let h : at < length p = omega arith in
    let q = token_span p at h t c.read_token-t.ensures in
    let put = c.write_token.ensures in
    let e = tokens_next p at h t c.read_token-t.ensures i.3
    ∙ ap (λ x. t ∷ x) (skipped_tokens p (t.start + t.size) c.skip_blanks-at-in-loop-at.result c.skip_blanks-at-in-loop-at.ensures.0) in
    let rest = token_words (tokens_from 0 c.skip_blanks-at-in-loop-at.result (drop c.skip_blanks-at-in-loop-at.result p)) in
    let room : n + 3 ≤ length b = omega (arith, c.requires.2, i.1, i.2) in
    let k = kind_number t.kind in
    let u = three_written b n k t.start t.size room (token_words (tokens_of p)) rest (i.4 ∙ ap (λ x. take n b ++ token_words x) e) in (
      c.skip_blanks-at-in-loop-at.ensures.1,
      omega (arith, q.0, q.1, c.skip_blanks-at-in-loop-at.ensures.0, i.1),
      ap length put ∙ three_long b n k t.start t.size room ∙ i.2,
      skipped_blanks p (t.start + t.size) c.skip_blanks-at-in-loop-at.result c.skip_blanks-at-in-loop-at.ensures.0,
      u ∙ ap (λ x. take (n + 3) x ++ rest) (sym put),
      ap (drop (n + 3)) put ∙ three_behind b n k t.start t.size room a.tokens.now i.5,
    )

pub returns : goal.returns
returns c =
    let a = c.args in
    let p = a.points.now in
    let at = c.loop-at.at in
    let n = c.loop-at.n in
    let b = c.loop-at.tokens in
    let i = c.loop-at.invariant in
    let put = c.write_token-2.ensures in
    let all = token_words (tokens_of p) in
    let room : n + 3 ≤ length b = omega (arith, c.requires.2, i.0, i.1, i.2) in
    let e = i.4
    ∙ ap (λ x. take n b ++ token_words x) (tokens_over p at (omega (arith, c.loop-at-test.false)))
    ∙ ap (λ m. take n b ++ (0 ∷ m ∷ 0 ∷ [])) (add-zero at) in
    let u = three_written b n 0 at 0 room all [] e ∙ append-nil _ in
    written_all _ (n + 3) all a.tokens.now (omega (arith, room, ap length put ∙ three_long b n 0 at 0 room))
    (ap (take (n + 3)) put ∙ sym u) (ap (drop (n + 3)) put ∙ three_behind b n 0 at 0 room a.tokens.now i.5)
