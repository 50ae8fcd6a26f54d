-- `put_record` meets its contract: head, map and counts lie one after the other, and the places after them.
use mathlib.Core.Path.{◌≡◌, refl, ap, ◌∙◌}
use mathlib.Core.List.{List, ◌++◌, append_assoc}
use Prim.Native.Nat.{ℕ}
use native.Mathlib.Omega.{arith}
use borrow.Author.Rules.{rules}
use lib.ListN.{length}
use Rattle.sector.proofs.Laws.{over}
use Rattle.boundary_encoding.specs.Encoding.{head_bytes, count_bytes, places_bytes, record_bytes}
use Rattle.boundary_encoding.proofs.Laws.{parts_laid}
use Rattle.boundary_encoding.proofs.put_record.Goals as goal

pub put-requires-2 : goal.put-requires-2
put-requires-2 c =
    let map_long : length c.args.page.now.map ≡ 32 = search rules in
    let long = map_long in
    omega (arith, long, c.put.auto.out)

pub returns : goal.returns
unfolding record_bytes
returns c =
    let map_long : length c.args.page.now.map ≡ 32 = search rules in
    let page = c.args.page.now in
    let base = c.args.out.now in
    let head = c.head_bytes.ensures in
    c.put_places.ensures
    ∙ ap (λ (front : List ℕ). front ++ places_bytes page.list)
    (parts_laid base (head_bytes page) page.map (count_bytes page) 10 32 3 refl map_long refl
    (c.put.ensures ∙ ap (over base 0) head) c.put-2.ensures c.put-3.ensures)
    ∙ append_assoc (head_bytes page) (page.map ++ count_bytes page) (places_bytes page.list)
    ∙ ap (λ (rest : List ℕ). head_bytes page ++ rest) (append_assoc page.map (count_bytes page) (places_bytes page.list))
