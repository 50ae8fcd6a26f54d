-- `page_write::active_refusal` meets its contract: each `return` is the first check that refuses, or none.
use mathlib.Core.Path.{◌≡◌, sym, ◌∙◌}
use mathlib.Core.Bool.{true}
use Rattle.page.specs.Record.{fit_to_use}
use Rattle.page_write.proofs.active_refusal.Goals as goal

pub returns-then-not-fit_to_use : goal.returns-then-not-fit_to_use
returns-then-not-fit_to_use c =
    rw (sym c.fit_to_use.ensures ∙ c.if-not-fit_to_use.true)

pub returns-then-not-is_active : goal.returns-then-not-is_active
returns-then-not-is_active c =
    let fit : fit_to_use c.args.page.now ≡ true = sym c.fit_to_use.ensures ∙ c.if-not-fit_to_use.false in
    rw (fit, sym c.is_active.ensures ∙ c.if-not-is_active.true)

pub returns : goal.returns
returns c =
    let fit : fit_to_use c.args.page.now ≡ true = sym c.fit_to_use.ensures ∙ c.if-not-fit_to_use.false in
    rw (fit, sym c.is_active.ensures ∙ c.if-not-is_active.false)
