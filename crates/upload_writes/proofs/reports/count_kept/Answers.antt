-- `count_kept` meets its contract: as many numbers are kept as fates say so.
use Rattle.std.proofs.Common.{◌≡◌, ℕ, zero, suc, ◌≤◌, List, [], ◌∷◌, ◌++◌, length, take, nat_eq, count_by, length-append, add-one, refl, ◌∙◌, ap, rules, arith}
use Rattle.std.proofs.lemmas.List.Sums.{count_by_more_yes, count_by_more_no}
use Rattle.sequences.specs.Sequences.{keep, numbers}
use Rattle.sequences.proofs.Booleans.{Decided, yes, no, decided}
use Rattle.sequences.proofs.Keeping.{keep_append, keep_yes, keep_no, keep_nil}
use Rattle.upload_writes.specs.Writing.{is_kept_in}
use Rattle.upload_writes.proofs.reports.count_kept.Goals as goal

counted : (fates : List ℕ) (n : ℕ) → n ≤ length fates → count_by (λ x. nat_eq x 0) (take n fates) ≡ length (keep (is_kept_in fates) (numbers n))
unfolding numbers keep
counted fates zero h = refl
counted fates (suc n) h = go (decided (is_kept_in fates n)) (counted fates n (omega arith))
  where
    go : Decided (is_kept_in fates n) → count_by (λ x. nat_eq x 0) (take n fates) ≡ length (keep (is_kept_in fates) (numbers n))
        → count_by (λ x. nat_eq x 0) (take (suc n) fates) ≡ length (keep (is_kept_in fates) (numbers n ++ (n ∷ [])))
    go (yes e) ih =
        let a = rw (add-one n) at (count_by_more_yes (λ x. nat_eq x 0) fates n 0 (omega arith) e) in
        let k = ap length (keep_append (is_kept_in fates) (numbers n) (n ∷ [])) in
        let l = length-append (keep (is_kept_in fates) (numbers n)) (keep (is_kept_in fates) (n ∷ [])) in
        omega (arith, ap length (keep_yes (is_kept_in fates) n [] e), ap length (keep_nil (is_kept_in fates)))
    go (no e) ih =
        let a = rw (add-one n) at (count_by_more_no (λ x. nat_eq x 0) fates n 0 (omega arith) e) in
        let k = ap length (keep_append (is_kept_in fates) (numbers n) (n ∷ [])) in
        let l = length-append (keep (is_kept_in fates) (numbers n)) (keep (is_kept_in fates) (n ∷ [])) in
        omega (arith, ap length (keep_no (is_kept_in fates) n [] e), ap length (keep_nil (is_kept_in fates)))

pub returns : goal.returns
returns c =
    let e : c.count.result ≡ count_by (λ x. nat_eq x 0) (take c.args.count c.args.fates.now) = search rules in
    e ∙ counted c.args.fates.now c.args.count c.requires.0
