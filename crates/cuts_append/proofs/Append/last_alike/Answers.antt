-- `last_alike` meets its contract: the search finds the first cut whose next one is found otherwise than the first is.
use Rattle.std.proofs.Common.{rules, tests, ◌≡◌, ◌∙◌, ◌+◌, ℕ}
use Rattle.std.proofs.lemmas.Iterator.{first_from_Range}
use Rattle.cuts_append.specs.Cutting.{Found, found_after}
use Rattle.cuts_append.proofs.Laws.{Finds, found_alike, found_last}
use Rattle.cuts_append.proofs.Append.last_alike.Goals as goal

pub returns : goal.returns
returns c =
    let z = c.args in
    let a = z.self.now in
    let found : ℕ → Found = found_after a.before z.after.now a.request a.payload.now in
    let searched : Finds (λ n. found (n + 1) ≡ found z.first) (λ n. found (n + 1) ≡ found z.first → ⊥) z.first z.last c.find.result = first_from_Range _ _ _ _ _ _ c.find.ensures.ran (λ x q k. search (rules, tests)) (λ x q k. search (rules, tests)) in
    record {
      within = search rules;
      alike = rw c.unwrap_or.ensures (found_alike found z.first z.last _ c.max.ensures c.find.result searched);
      last = c.unwrap_or.ensures ∙ found_last found z.first z.last _ c.max.ensures c.find.result searched;
    }
