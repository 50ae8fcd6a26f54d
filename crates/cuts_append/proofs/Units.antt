-- The units that are counted are those of the plan: an append is stopped at n where no check refuses and n is below their number.
-- One that nothing stops, and is refused, leaves its sector as it was.
use mathlib.Core.Path.{◌≡◌, refl, sym, ◌∙◌}
use mathlib.Core.Bool.{Bool, true, false, ◌&&◌, not, cond}
use mathlib.Core.List.{List, [], ◌∷◌, ◌++◌}
use Prim.Native.Nat.{ℕ, ◌+◌, ◌≤◌}
use native.Mathlib.Omega.{arith}
use lib.Dec.{eqb, ltb}
use lib.ListN.{length, take, length-append}
use borrow.Author.Tests.{lt-ltb, le-ltb}
use Rattle.flash.specs.Flash.{Unit4, units, run}
use Rattle.flash.proofs.Laws.{length-units_le}
use Rattle.std.specs.Prelude.{Ok, Err}
use Rattle.sector.specs.declared.Refusal.TheVariants.{Stopped}
use Rattle.sector.specs.declared.EntryMapState.TheVariants.{Written}
use Rattle.sector.specs.Answers.{Answer, Done, Check, refusal, accepted, refusal_number, number_of, value_where_done, value_in}
use Rattle.sector.specs.Item.{sized_data}
use Rattle.sector.specs.Layout.{entry_address}
use Rattle.sector.specs.Map.{mark_range, map_units}
use Rattle.sector.proofs.Laws.{length-item_bytes, length-sized_data}
use Rattle.page.specs.Record.{Page, next_free}
use Rattle.page.specs.Writing.{Outcome, answered, outcome, stops, full_units, item_plan}
use Rattle.page.proofs.Plans.{length_seal_le}
use Rattle.call_append.specs.declared.Single.{Single as SingleItem}
use Rattle.call_append.specs.declared.Variable.{Variable}
use Rattle.call_append.specs.Append.{single_checks, single_bytes, single_plan, with_single, append_single, append_single_image, span_for, variable_checks, variable_header, variable_plan, with_variable, append_variable, append_variable_image}
use Rattle.call_append.proofs.Laws.{single_room}
use Rattle.call_append_variable.proofs.Laws.{variable_room}
use Rattle.cuts_request.specs.declared.Request.{Request}
use Rattle.cuts_request.specs.declared.Value.{Value}
use Rattle.cuts_request.specs.declared.Value.TheVariants.{Single, Data}
use Rattle.cuts_append.specs.declared.Sector.{Sector}
use Rattle.cuts_append.proofs.Laws.{first_is}
use Rattle.cuts_append.specs.Cutting.{single_asked, variable_asked, appended, appended_image, Finished, finished_by, first_not, is_stopped, unit_count, request_checks, request_plan, HasEight, CountsThePlan}

-- ---- the first number that is not below the total

first_at : (test : ℕ → Bool) (total n more : ℕ) → ((k : ℕ) → test k ≡ ltb k total) → n ≤ total → total ≤ n + more
    → first_not test n more ≡ total
first_at test total n more t h g =
    first_is test n more total h g (λ k a b. t k ∙ lt-ltb k total b) (λ a. t total ∙ le-ltb total total (omega arith))

-- ---- where an append is stopped

-- no check of a list answers Stopped
abbrev none_stopped : List Check → Bool
none_stopped [] = true
none_stopped (check ∷ checks) = not (eqb (refusal_number check.1) 11) && none_stopped checks

refusal_not_stopped : (checks : List Check) → none_stopped checks ≡ true → eqb (number_of (refusal checks)) 11 ≡ false
refusal_not_stopped [] e = refl
refusal_not_stopped (check ∷ checks) e =
    go check.0 (eqb (refusal_number check.1) 11) refl e (refusal_not_stopped checks)
  where
    go : (refuses t : Bool) → eqb (refusal_number check.1) 11 ≡ t → (not t && none_stopped checks) ≡ true
        → (none_stopped checks ≡ true → eqb (number_of (refusal checks)) 11 ≡ false)
        → eqb (number_of (cond refuses (Err check.1) (refusal checks))) 11 ≡ false
    go true false f g h = f
    go true true f g h = cc
    go false false f g h = h g
    go false true f g h = cc

stopped_below : (checks : List Check) (total n : ℕ) (page new : Page) → none_stopped checks ≡ true
    → eqb (number_of (outcome checks (ltb n total) page new).answer) 11 ≡ ltb n (cond (accepted checks) total 0)
stopped_below checks total n page new e = go (accepted checks) (ltb n total) refl
  where
    result : Bool → Bool → Outcome
    result a t = cond a (cond t (answered (Err Stopped) page) (answered Done new)) (answered (refusal checks) page)

    go : (a t : Bool) → ltb n total ≡ t → eqb (number_of (result a t).answer) 11 ≡ ltb n (cond a total 0)
    go true true f = sym f
    go true false f = sym f
    go false t f = refusal_not_stopped checks e ∙ sym (le-ltb n 0 (omega arith))

-- ---- no append has more than 1,100 units

item_le : (header : List ℕ) (start span : ℕ) (map payload : List ℕ) → length header ≡ 32 → start + span ≤ 126 → length payload ≤ 4000
    → length (item_plan (units (entry_address start) header ++ units (entry_address (start + 1)) payload) start span map) ≤ 1100
unfolding item_plan
item_le header start span map payload h room short =
    let first = units (entry_address start) header in
    let second = units (entry_address (start + 1)) payload in
    let marks = map_units start span (mark_range Written start span map) ++ full_units (start + span) in
    omega (
      arith,
      length-append (first ++ second) marks,
      length-append first second,
      length-units_le (entry_address start) header,
      length-units_le (entry_address (start + 1)) payload,
      length_seal_le start span (mark_range Written start span map) room,
    )

single_le : (image : List ℕ) (page : Page) (item : SingleItem) → length item.key ≡ 16 → length item.bytes ≡ 8
    → accepted (single_checks image page item) ≡ true → length (single_plan page item) ≤ 1100
unfolding single_plan item_plan
single_le image page item k b h =
    let start = next_free page in
    let marks = map_units start 1 (mark_range Written start 1 page.map) ++ full_units (start + 1) in
    omega (
      arith,
      length-append (units (entry_address start) (single_bytes item)) marks,
      length-units_le (entry_address start) (single_bytes item),
      length-item_bytes item.namespace item.kind 1 item.chunk item.key item.bytes k b,
      length_seal_le start 1 (mark_range Written start 1 page.map) (single_room image page item h).room,
    )

variable_le : (image : List ℕ) (page : Page) (item : Variable) (payload : List ℕ) → length item.key ≡ 16
    → accepted (variable_checks image page item payload) ≡ true → length (variable_plan page item payload) ≤ 1100
unfolding variable_plan
variable_le image page item payload k h =
    let span = span_for (length payload) in
    let room = (variable_room image page item payload h).room in
    item_le (variable_header item payload) (next_free page) span page.map payload
    (length-item_bytes item.namespace item.kind span item.chunk item.key (sized_data payload) k (length-sized_data payload))
    room (omega arith)

-- ---- the count

-- a test that holds below the plan's length, or never where a check refuses
counted : (test : ℕ → Bool) (checks : List Check) (total : ℕ) → ((k : ℕ) → test k ≡ ltb k (cond (accepted checks) total 0))
    → (accepted checks ≡ true → total ≤ 1100) → first_not test 0 1100 ≡ cond (accepted checks) total 0
counted test checks total t h = first_at test (cond (accepted checks) total 0) 0 1100 t (omega arith) (go (accepted checks) refl)
  where
    go : (a : Bool) → accepted checks ≡ a → cond a total 0 ≤ 0 + 1100
    go true e = let most = h e in omega arith
    go false e = omega arith

-- what is counted of a request, and what its plan says
abbrev planned : Sector → Request → List ℕ → ℕ
planned before request payload =
    cond (accepted (request_checks before.image before.page request payload)) (length (request_plan before.page request payload)) 0

module _ (before : Sector) (request : Request) (payload : List ℕ) (k : length request.key ≡ 16) where
  single_count : (bytes : List ℕ) → length bytes ≡ 8 → request.value ≡ Single bytes
      → unit_count before request payload ≡ planned before request payload
  unfolding appended append_single
  single_count bytes b e =
      let image = before.image in
      let page = before.page in
      let item = single_asked request bytes in
      let checks = single_checks image page item in
      let total = length (single_plan page item) in
      let same : planned before request payload ≡ cond (accepted checks) total 0 = rw e in
      counted (is_stopped before request payload) checks total
      (λ n. rw e (stopped_below checks total n page (with_single page item) refl))
      (single_le image page item k b)
      ∙ sym same

  variable_count : request.value ≡ Data → unit_count before request payload ≡ planned before request payload
  unfolding appended append_variable
  variable_count e =
      let image = before.image in
      let page = before.page in
      let item = variable_asked request in
      let checks = variable_checks image page item payload in
      let total = length (variable_plan page item payload) in
      let same : planned before request payload ≡ cond (accepted checks) total 0 = rw e in
      counted (is_stopped before request payload) checks total
      (λ n. rw e (stopped_below checks total n page (with_variable page item payload) refl))
      (variable_le image page item payload k)
      ∙ sym same

pub counts_the_plan : CountsThePlan
counts_the_plan before request payload k b = go request.value b refl
  where
    go : (value : Value) → HasEight value → request.value ≡ value → unit_count before request payload ≡ planned before request payload
    go (Single bytes) b e = single_count before request payload k bytes b e
    go Data b e = variable_count before request payload k e

-- ---- the append that nothing stops

-- with no sector the definition has the one before
abbrev SectorLeft : Sector → Finished → Type 0
SectorLeft before left = value_in before (value_where_done left.answer left.sector) ≡ left.sector

module _ (before : Sector) (checks : List Check) (plan : List Unit4) (n : ℕ) (new : Page) where
  abbrev left : Bool → Bool → Answer → Finished
  left a t refused =
      let handed = cond a (cond t (answered (Err Stopped) before.page) (answered Done new)) (answered refused before.page) in
      record {
        answer = handed.answer;
        sector = record { image = cond a (run (take n plan) before.image) before.image; page = handed.page };
      }

  left_refused : (a t : Bool) (refused : Answer) → (a ≡ true → t ≡ false) → SectorLeft before (left a t refused)
  left_refused true true refused h = let never = h refl in cc
  left_refused true false refused h = refl
  left_refused false t (Ok done) h = refl
  left_refused false t (Err refused) h = refl

  unstopped : (accepted checks ≡ true → length plan ≤ n) → SectorLeft before (left (accepted checks) (stops n plan) (refusal checks))
  unstopped fits = left_refused (accepted checks) (stops n plan) (refusal checks) (λ a. le-ltb n (length plan) (fits a))

module _ (before : Sector) (request : Request) (payload : List ℕ) (k : length request.key ≡ 16) where
  single_left : (bytes : List ℕ) → length bytes ≡ 8 → request.value ≡ Single bytes → SectorLeft before (finished_by before request payload)
  unfolding appended append_single appended_image append_single_image
  single_left bytes b e =
      let item = single_asked request bytes in
      let checks = single_checks before.image before.page item in
      rw e (unstopped before checks (single_plan before.page item) 1100 (with_single before.page item) (single_le before.image before.page item k b))

  variable_left : request.value ≡ Data → SectorLeft before (finished_by before request payload)
  unfolding appended append_variable appended_image append_variable_image
  variable_left e =
      let item = variable_asked request in
      let checks = variable_checks before.image before.page item payload in
      rw e (unstopped before checks (variable_plan before.page item payload) 1100 (with_variable before.page item payload) (variable_le before.image before.page item payload k))

-- on a refusal the sector is as it was
pub finish_refused : (before : Sector) (request : Request) (payload : List ℕ) → length request.key ≡ 16 → HasEight request.value
    → value_in before (value_where_done (finished_by before request payload).answer (finished_by before request payload).sector)
    ≡ (finished_by before request payload).sector
finish_refused before request payload k b = go request.value b refl
  where
    go : (value : Value) → HasEight value → request.value ≡ value → SectorLeft before (finished_by before request payload)
    go (Single bytes) b e = single_left before request payload k bytes b e
    go Data b e = variable_left before request payload k e
