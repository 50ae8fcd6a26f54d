-- One more append or copy begun on a page that stands: each call's checks, plan and record in one form.
--
-- In order: the page at hand, and what a write that begins has; what a single entry, a payload and a copy lay; any of them.
use mathlib.Core.Path.{◌≡◌, refl, sym, ap, ap₂, ◌∙◌}
use mathlib.Core.Bool.{Bool, true, false, ◌||◌, not, and-eq-true_iff}
use mathlib.Core.List.{List, [], ◌∷◌, ◌++◌}
use Prim.Native.Nat.{ℕ, suc, ◌-◌, ◌*◌, ◌≤◌, ◌<◌}
use native.Mathlib.Omega.{arith}
use lib.Dec.{eqb, ltb}
use lib.ListN.{length, take, replicate}
use lib.Seq.{take_at}
use borrow.Author.Tests.{not-false}
use Rattle.flash.specs.Flash.{Unit4, run}
use Rattle.page.specs.Record.{Page, next_free, with_item}
use Rattle.page.specs.Writing.{over_free, item_plan, stops, outcome}
use Rattle.page.proofs.Checks.{accepted_usable}
use Rattle.page.proofs.Laws.{fit_clauses}
use Rattle.sector.specs.declared.Refusal.TheVariants.{BadRequest, ValueTooLong}
use Rattle.sector.specs.declared.PageState.{PageState}
use Rattle.sector.specs.declared.PageState.TheVariants.{Uninitialized, Active, Full, Freeing, Corrupt, Invalid}
use Rattle.sector.specs.Answers.{Done, Check, accepted}
use Rattle.sector.specs.Header.{state_of_word, is_active}
use Rattle.sector.specs.Item.{hash_of, hash_of_item, item_bytes, sized_data}
use Rattle.sector.specs.Layout.{state_word, namespace_of}
use Rattle.sector.specs.Types.{item_type, has_payload}
use Rattle.sector.proofs.Laws.{length_chunks, accepted_head}
use Rattle.call_append.specs.Append.{is_single, single_request, single_bytes, span_for, variable_request, variable_header}
use Rattle.opening_reading.specs.Reading.{Item}
use Rattle.opening_reading.proofs.Verdicts.{Entries}
use Rattle.opening.specs.Opening.{listed_items}
use Rattle.theorem_reopening.proofs.OpenedFront.{count_closed}
use Rattle.theorem_writing.specs.Promises.{checks_of, plan_of, new_of, outcome_of, image_of, span_of_new, entry_units}
use Rattle.theorem_writing.proofs.Answers.{checks_refuse, accepts, told_put}
use Rattle.theorem_writing.proofs.Order.{plan_put}
use Rattle.theorem_power_cut.specs.History.{AppendOrCopy, a_single, a_variable, a_copy, entries_of_write, payload_entries, call_of, put_request}
use Rattle.theorem_power_cut.specs.PowerCut.{Begins}
use Rattle.theorem_power_cut.proofs.Standing.{Standing}
use Rattle.theorem_power_cut.proofs.Begun.{Lays}
use Rattle.theorem_power_cut.proofs.Laid.{lays_single, lays_variable, place, copied_span, entry_is, lays_copy}
use Rattle.theorem_power_cut.proofs.AtHand.{page_of}
use Rattle.theorem_power_cut.proofs.Accepted.{write_accepted, done_whole, done_page, done_plan}

-- ---- the page at hand

not_or_false : (a b : Bool) → (not a || b) ≡ false → a ≡ true
not_or_false true b e = refl
not_or_false false b e = sym e

is_active_lem : (s : PageState) → is_active s ≡ true → s ≡ Active
is_active_lem Uninitialized e = cc
is_active_lem Active e = refl
is_active_lem Full e = cc
is_active_lem Freeing e = cc
is_active_lem Corrupt e = cc
is_active_lem Invalid e = cc

-- namespace and hash of a new item, read off its bytes
item_read : (page : Page) (entries namespace kind span chunk : ℕ) (key bytes : List ℕ) → length key ≡ 16
    → let entry = item_bytes namespace kind span chunk key bytes in
    with_item page entries namespace (hash_of namespace key chunk) ≡ with_item page entries (namespace_of entry) (hash_of_item entry)
unfolding item_bytes
item_read page entries namespace kind span chunk key bytes size =
    ap (λ (k : List ℕ). with_item page entries namespace (hash_of namespace k chunk)) (sym (take_at key bytes 16 size))

module _ {image : List ℕ} {items : List Item} (p : Standing image items) where
  abbrev pub page : Page
  page = page_of p.header p.map p.front items

  abbrev pub start : ℕ
  start = length p.front

  pub next_is : next_free page ≡ start
  next_is = count_closed p.closed

  -- a write that begins: its bytes are laid at next free, the image is that of its first n units, and done it hands back the record with the item
  pub record Started (write : AppendOrCopy) (n : ℕ) : Type 0 where
    pub entry : List ℕ
    pub new : Entries
    pub lays : Lays p entry new (entry_units (put_request write) page)
    pub entries_is : entries_of_write write ≡ entry ∷ new
    pub image_is : image_of (call_of write) image page n ≡ run (take n (item_plan (entry_units (put_request write) page) start (suc (length new)) p.map)) image
    pub active : state_of_word (state_word p.header) ≡ Active
    pub short : length (listed_items items) < 126
    pub done : (outcome_of (call_of write) image page n).answer ≡ Done
        → (image_of (call_of write) image page n ≡ run (item_plan (entry_units (put_request write) page) start (suc (length new)) p.map) image)
        × ((outcome_of (call_of write) image page n).page ≡ with_item page (suc (length new)) (namespace_of entry) (hash_of_item entry))

  -- ---- what each of the writes lays

  record Laying (write : AppendOrCopy) : Type 0 where
    entry : List ℕ
    new : Entries
    lays : Lays p entry new (entry_units (put_request write) page)
    entries_is : entries_of_write write ≡ entry ∷ new
    span_is : span_of_new (put_request write) ≡ suc (length new)
    page_is : new_of (call_of write) page ≡ with_item page (suc (length new)) (namespace_of entry) (hash_of_item entry)

  laying : (write : AppendOrCopy) → accepted (checks_of (call_of write) image page) ≡ true → span_of_new (put_request write) ≤ p.spare → Laying write
  -- a single entry
  laying (a_single request asked) ok room =
      let asks = single_request request in
      let last : List Check = over_free page 1 ∷ [] in
      let u = accepted_usable image page (not (is_active page.state)) (asks ∷ last) ok in
      let typed = ((and-eq-true_iff (is_single (item_type request.kind)) (eqb request.span 1)).0 (not-false _ (accepted_head asks.0 BadRequest last u.rest))).0 in
      record {
        entry = single_bytes request;
        new = [];
        lays = rw next_is (lays_single p request asked typed room);
        entries_is = refl;
        span_is = refl;
        page_is = item_read page 1 request.namespace request.kind 1 request.chunk request.key request.bytes asked.key_size;
      }
  -- a payload
  laying (a_variable request payload asked) ok room =
      let span = span_for (length payload) in
      let asks = variable_request request in
      let last : List Check = (ltb 126 span, ValueTooLong) ∷ over_free page span ∷ [] in
      let u = accepted_usable image page (not (is_active page.state)) (asks ∷ last) ok in
      let typed = not_or_false (has_payload (item_type request.kind)) (eqb request.namespace 0) (accepted_head asks.0 BadRequest last u.rest) in
      let entries = payload_entries (span - 1) payload in
      let counted : span ≡ suc (length entries) = omega (arith, length_chunks (span - 1) (payload ++ replicate (32 * (span - 1) - length payload) 0xFF)) in
      record {
        entry = variable_header request payload;
        new = entries;
        lays = rw next_is (lays_variable p request payload asked typed room);
        entries_is = refl;
        span_is = counted;
        page_is =
            rw (← counted)
            (item_read page span request.namespace request.kind span request.chunk request.key (sized_data payload) asked.key_size);
      }
  -- a copy
  laying (a_copy source index entries kept) ok room =
      let there = place p source index entries kept in
      let span_is = copied_span p source index entries kept in
      record {
        entry = there.header;
        new = there.new;
        lays = rw next_is (lays_copy p source index entries kept room);
        entries_is = there.header_first;
        span_is = span_is;
        page_is = ap₂ (λ (k : ℕ) (e : List ℕ). with_item page k (namespace_of e) (hash_of_item e)) span_is (entry_is p source index entries kept);
      }

  -- ---- any of them

  module _ (write : AppendOrCopy) (n : ℕ) where
    abbrev checks : List Check
    checks = checks_of (call_of write) image page

    abbrev planned : List Unit4
    planned = plan_of (call_of write) image page

    abbrev made : Page
    made = new_of (call_of write) page

    outcome_is : outcome_of (call_of write) image page n ≡ outcome checks (stops n planned) page made
    outcome_is = (told_put (put_request write) image page n).0

    -- the units of an accepted write, in the entries that it takes
    units_are : (l : Laying write) → planned ≡ item_plan (entry_units (put_request write) page) start (suc (length l.new)) p.map
    units_are l =
        plan_put (put_request write) image page
        ∙ ap₂ (λ (i span : ℕ). item_plan (entry_units (put_request write) page) i span p.map) next_is l.span_is

    image_after_lem : accepted checks ≡ true → (units : List Unit4) → take n planned ≡ units → image_of (call_of write) image page n ≡ run units image
    image_after_lem ok units e = (told_put (put_request write) image page n).1 ∙ rw (ok, e)

    pub started : Begins write image page n → Started write n
    started b =
        let ok = write_accepted write image page n b in
        let a = accepts (put_request write) image page ok in
        let l = laying write ok (omega (arith, a.room, next_is, p.sum)) in
        let fit = fit_clauses page a.fit in
        record {
          entry = l.entry;
          new = l.new;
          lays = l.lays;
          entries_is = l.entries_is;
          image_is = image_after_lem ok _ (ap (take n) (units_are l));
          active = is_active_lem (state_of_word (state_word p.header)) a.active;
          short = omega (arith, fit.len_fits, a.one, a.room);
          done = λ d.
              let done = rw outcome_is at d in
              let refuse = checks_refuse (call_of write) image page in (
                image_after_lem ok _ (done_plan n planned (done_whole checks refuse (stops n planned) page made done) ∙ units_are l),
                rw outcome_is (done_page checks refuse (stops n planned) page made done) ∙ l.page_is,
              );
        }
