-- `Listing::push` keeps the places behind those in use zero: the place after the last was one of them.
use Rattle.std.proofs.Common.{◌≡◌, sym, ap, ◌∙◌, List, ℕ, ◌+◌, ◌<◌, length, take, set, arith}
use Rattle.std.proofs.Math.Seq.{length-take-le}
use Rattle.std.proofs.lemmas.List.{take_more_set}
use Rattle.page.specs.declared.Listed.{Listed}
use Rattle.page.specs.Record.{padded}
use Rattle.page.proofs.Laws.{padded_more}
use Rattle.opening.proofs.listing.Listing.push.Goals as goal

pushed : (list : List Listed) (len : ℕ) (place : Listed) → len < 126 → length list ≡ 126 → list ≡ padded (take len list)
    → set list len place ≡ padded (take (len + 1) (set list len place))
pushed list len place room whole made =
    let used : length (take len list) ≡ len = length-take-le len list (omega arith) in
    ap (λ (places : List Listed). set places len place) made
    ∙ ap (λ (n : ℕ). set (padded (take len list)) n place) (sym used)
    ∙ padded_more (take len list) place (omega arith)
    ∙ ap padded (sym (take_more_set list len place (omega arith)))

pub invariant_of-self : goal.invariant_of-self
invariant_of-self c =
    let list = c.self.inside.list in
    let len = c.self.inside.len in
    let whole : length list ≡ 126 = omega arith in
    let used : length (take len list) ≡ len = length-take-le len list (omega arith) in
    let room : len < 126 = omega (arith, used, ap length c.self.view_is) in
    (omega arith, pushed list len c.args.place room whole c.self.invariant.1)
