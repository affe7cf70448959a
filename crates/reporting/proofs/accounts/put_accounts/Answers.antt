use Rattle.std.proofs.Common.{ℕ, List, ◌++◌, string_bytes, ap, ◌∙◌, arith}
use Rattle.memory.specs.Lent.{seen}
use Rattle.reporting.specs.Shown.{account_shown, accounts_seen}
use Rattle.reporting.specs.Tables.{accounts_heading}
use Rattle.reporting.proofs.Numbers.{in_order}
use Rattle.reporting.proofs.Rows.{rows_next, rows_all}
use Rattle.reporting.proofs.accounts.put_accounts.Goals as goal

pub loop-account-preserved : goal.loop-account-preserved
loop-account-preserved c =
    let row : ℕ → List ℕ = account_shown c.args.view.limits (seen c.args.view) in
    rows_next row c.loop-account.account-index (string_bytes c.push_str.new.self) (string_bytes c.loop-account.out) (string_bytes c.put_account.new.out) c.loop-account.invariant
    (c.in_ok-put_account.ensures ∙ ap (λ (n : ℕ). string_bytes c.loop-account.out ++ row n) (in_order c.loop-account.account-index (omega arith)))

pub returns : goal.returns
unfolding accounts_seen
returns c =
    rows_all (account_shown c.args.view.limits (seen c.args.view)) 9 c.loop-account.account-index (string_bytes c.args.out.now) accounts_heading (string_bytes c.push_str.new.self) (string_bytes c.loop-account.out)
    c.in_ok-push_str.ensures.bytes c.loop-account.invariant (omega arith)
