-- `count_units` meets its contract: what the search finds is the first number at which the append is not stopped.
use Rattle.std.proofs.Common.{rules, tests, refl, ◌≡◌, ◌∙◌, ℕ, Bool, true, false}
use Rattle.std.proofs.lemmas.Iterator.{first_from_Range}
use Rattle.cuts_append.specs.Cutting.{is_stopped}
use Rattle.cuts_append.proofs.Laws.{first_found}
use Rattle.cuts_append.proofs.Append.count_units.Goals as goal

pub returns-clause-count : goal.returns-clause-count
returns-clause-count c =
    let a = c.args.self.now in
    let stopped : ℕ → Bool = is_stopped a.before a.request a.payload.now in
    c.unwrap_or.ensures
    ∙ first_found stopped 0 1100 1100 refl c.find.result
    (first_from_Range _ _ _ _ (λ n. stopped n ≡ false) (λ n. stopped n ≡ true) c.find.ensures.ran (λ x q k. search (rules, tests)) (λ x q k. search (rules, tests)))
