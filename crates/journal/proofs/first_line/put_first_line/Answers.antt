use Rattle.std.proofs.Common.{ℕ, List, [], ◌∷◌, ◌++◌, codes, decimal, ap, ◌∙◌}
use Rattle.journal.proofs.FirstLines.{more}
use Rattle.journal.proofs.first_line.put_first_line.Goals as goal

pub returns : goal.returns
returns c =
    let l = c.args.limits in
    let e : List ℕ = codes " --entries " ++ (decimal l.entries ++ 10 ∷ []) in
    let p : List ℕ = codes " --parts " ++ (decimal l.parts ++ e) in
    let q : List ℕ = codes " --lots " ++ (decimal l.lots ++ p) in
    let o : List ℕ = codes " --orders " ++ (decimal l.orders ++ q) in
    c.in_ok-push.ensures.items
    ∙ ap (λ (x : List ℕ). x ++ 10 ∷ []) c.in_ok-put_limit-5.ensures ∙ more c.put_limit-4.new.out.items (codes " --entries ") (decimal l.entries) (10 ∷ [])
    ∙ ap (λ (x : List ℕ). x ++ e) c.in_ok-put_limit-4.ensures ∙ more c.put_limit-3.new.out.items (codes " --parts ") (decimal l.parts) e
    ∙ ap (λ (x : List ℕ). x ++ p) c.in_ok-put_limit-3.ensures ∙ more c.put_limit-2.new.out.items (codes " --lots ") (decimal l.lots) p
    ∙ ap (λ (x : List ℕ). x ++ q) c.in_ok-put_limit-2.ensures ∙ more c.put_limit.new.out.items (codes " --orders ") (decimal l.orders) q
    ∙ ap (λ (x : List ℕ). x ++ o) c.in_ok-put_limit.ensures ∙ more c.args.out.now.items (codes "# books --items ") (decimal l.items) o
