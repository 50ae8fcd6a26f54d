-- Done calls hand back fit records: each clause of fitness holds of the new record, since it held of the incoming one and the checks accepted.
--
-- In order: states; records with another state; a record with an item; a record with an erasure; each call.
use mathlib.Core.Path.{◌≡◌, refl, sym, ap, ◌∙◌}
use mathlib.Core.Bool.{Bool, true, false, ◌||◌, not, cond, false≢true, and-eq-true_iff}
use mathlib.Core.List.{List, [], ◌∷◌}
use Prim.Native.Nat.{ℕ, zero, suc, ◌+◌, ◌-◌, ◌≤◌, ◌<◌, ◌^◌}
use native.Mathlib.Numerals.{add-one}
use native.Mathlib.Omega.{arith}
use lib.Dec.{eqb, ltb}
use lib.ListN.{length, take, drop, get_or, set, replicate, length-take}
use lib.Seq.{take-append_seam, drop-append_seam, take-suc-set, drop-set-lt}
use borrow.Author.Tests.{ltb-true, ltb-false, lt-ltb, not-false}
use Rattle.flash.specs.Flash.{every}
use Rattle.flash.proofs.Laws.{Bytes, bytes_nil, bytes_cons, every_append, every_drop, neither}
use Rattle.page.specs.declared.Listed.{Listed}
use Rattle.sector.specs.Header.{is_uninitialized, is_active, is_in_use}
use Rattle.page.specs.Record.{Page, next_free, no_item, place_fits, place_zero, without, in_use, blank_fits, fit_to_use, with_item, with_erased}
use Rattle.page.specs.Writing.{Outcome, bad_image, bad_record, stops}
use Rattle.page.proofs.Checks.{accepted_usable}
use Rattle.page.proofs.Laws.{Fit, fit_clauses, fit_of}
use Rattle.sector.specs.declared.Refusal.TheVariants.{BadImage, BadRecord, CorruptedData, NotWritten}
use Rattle.sector.specs.declared.EntryMapState.TheVariants.{Written, Erased}
use Rattle.sector.specs.declared.PageState.{PageState}
use Rattle.sector.specs.declared.PageState.TheVariants.{Uninitialized, Active, Full, Freeing, Corrupt, Invalid}
use Rattle.sector.specs.Answers.{accepted}
use Rattle.sector.specs.Item.{hash_of}
use Rattle.sector.specs.Layout.{entry_at, namespace_of, key_of, chunk_of}
use Rattle.sector.specs.Map.{states_of, count_in, mark_range}
use Rattle.sector.proofs.Laws.{length-states_of, accepted_head, accepted_tail}
use Rattle.sector.proofs.Marks.{states_of-mark_range, count_in_marked, count_in_erased}
use Rattle.call_page_state.specs.Calls.{initialise_checks, initialised, marked_full}
use Rattle.call_erase.specs.Erase.{all_written, erase_checks}
use Rattle.theorem_writing.specs.Promises.{PutRequest, single, variable, copied, Call, initialising, marking_full, putting, erasing, purging, checks_of, plan_of, new_of, span_of_new, AsInCode, DoneHandsBackFit}
use Rattle.theorem_writing.proofs.Answers.{checks_refuse, accepts, done_only, told}

-- ---- states

-- a state that passes a test that Uninitialized does not
pub known_state : (test : PageState → Bool) → test Uninitialized ≡ false → (s : PageState) → test s ≡ true → is_uninitialized s ≡ false
known_state test none Uninitialized h = absurd (false≢true (sym none ∙ h))
known_state test none Active h = refl
known_state test none Full h = refl
known_state test none Freeing h = refl
known_state test none Corrupt h = refl
known_state test none Invalid h = refl

-- a page that is not Uninitialized owes no blank record
pub known_fits : (page : Page) → is_uninitialized page.state ≡ false → blank_fits page ≡ true
known_fits page h = rw h

-- ---- another state

initialised_fit : (page : Page) (sequence : ℕ) → fit_to_use page ≡ true → fit_to_use (initialised page sequence) ≡ true
unfolding initialised
initialised_fit page sequence h =
    let f = fit_clauses page h in
    fit_of (initialised page sequence)
    (record {
      counts = f.counts;
      len_fits = f.len_fits;
      written_fits_lem = f.written_fits_lem;
      listed_fit_lem = f.listed_fit_lem;
      behind_zero_lem = f.behind_zero_lem;
      blank_fits_lem = refl;
    })

marked_full_fit : (page : Page) → fit_to_use page ≡ true → fit_to_use (marked_full page) ≡ true
unfolding marked_full
marked_full_fit page h =
    let f = fit_clauses page h in
    fit_of (marked_full page)
    (record {
      counts = f.counts;
      len_fits = f.len_fits;
      written_fits_lem = f.written_fits_lem;
      listed_fit_lem = f.listed_fit_lem;
      behind_zero_lem = f.behind_zero_lem;
      blank_fits_lem = refl;
    })

-- ---- a record with an item

-- bytes that pass the test of each
pub bytes_of : (bytes : List ℕ) → every (λ (byte : ℕ). ltb byte 256) bytes ≡ true → Bytes bytes
bytes_of [] h = bytes_nil
bytes_of (byte ∷ bytes) h =
    let both = (and-eq-true_iff (ltb byte 256) (every (λ (byte : ℕ). ltb byte 256) bytes)).0 h in
    bytes_cons (ltb-true byte 256 both.0) (bytes_of bytes both.1)

-- one more place after those in use
listed_more : (list : List Listed) (len : ℕ) (place : Listed) → len < length list → every place_fits (take len list) ≡ true → place_fits place ≡ true
    → every place_fits (take (len + 1) (set list len place)) ≡ true
listed_more list len place h e p =
    rw (add-one len, take-suc-set list len place h, every_append place_fits (take len list) (place ∷ []), e, p)

-- and those after it are still zero
zero_behind : (list : List Listed) (len : ℕ) (place : Listed) → len < length list → every place_zero (drop len list) ≡ true
    → every place_zero (drop (len + 1) (set list len place)) ≡ true
zero_behind list len place h e =
    rw (add-one len, drop-set-lt (suc len) list len place (omega arith))
    ((and-eq-true_iff (place_zero (get_or list len no_item)) (every place_zero (drop (suc len) list))).0 (sym (every_drop place_zero list len no_item h) ∙ e)).1

module _ (page : Page) (span namespace hash : ℕ) (code : AsInCode page) (f : Fit page) (active : is_active page.state ≡ true)
    (one : 1 ≤ span) (room : next_free page + span ≤ 126) (short : hash < 2 ^ 24) where
  abbrev place : Listed
  place = record { hash = hash; index = next_free page }

  inside : page.len < length page.list
  inside = omega (arith, f.len_fits, code.2)

  place_fits_lem : place_fits place ≡ true
  place_fits_lem = rw (lt-ltb (next_free page) 126 (omega arith), lt-ltb hash (2 ^ 24) short)

  item_written : count_in Written (states_of (mark_range Written (next_free page) span page.map)) ≤ page.used + span
  item_written =
      rw (states_of-mark_range Written (next_free page) span (bytes_of page.map code.1))
      (omega (arith, count_in_marked (next_free page) span (states_of page.map), f.written_fits_lem))

  item_len : (plain : Bool) → cond plain page.len (page.len + 1) ≤ page.used + span + page.erased
  item_len true = omega (arith, f.len_fits)
  item_len false = omega (arith, f.len_fits)

  item_listed : (plain : Bool) → every place_fits (take (cond plain page.len (page.len + 1)) (cond plain page.list (set page.list page.len place))) ≡ true
  item_listed true = f.listed_fit_lem
  item_listed false = listed_more page.list page.len place inside f.listed_fit_lem place_fits_lem

  item_behind : (plain : Bool) → every place_zero (drop (cond plain page.len (page.len + 1)) (cond plain page.list (set page.list page.len place))) ≡ true
  item_behind true = f.behind_zero_lem
  item_behind false = zero_behind page.list page.len place inside f.behind_zero_lem

  item_known : (last : Bool) → is_uninitialized (cond last Full page.state) ≡ false
  item_known true = refl
  item_known false = known_state is_active refl page.state active

  item_fit : fit_to_use (with_item page span namespace hash) ≡ true
  unfolding with_item
  item_fit =
      fit_of (with_item page span namespace hash)
      (record {
        counts = omega arith;
        len_fits = item_len (eqb namespace 0);
        written_fits_lem = item_written;
        listed_fit_lem = item_listed (eqb namespace 0);
        behind_zero_lem = item_behind (eqb namespace 0);
        blank_fits_lem = known_fits (with_item page span namespace hash) (item_known (eqb (next_free page + span) 126));
      })

-- ---- a record with an erasure

every_without : (test : Listed → Bool) (index : ℕ) (places : List Listed) → every test places ≡ true → every test (without index places) ≡ true
unfolding without
every_without test index [] h = refl
every_without test index (place ∷ places) h =
    let both = (and-eq-true_iff (test place) (every test places)).0 h in
    by_test (eqb place.index index) both.0 (every_without test index places both.1)
  where
    by_test : (same : Bool) → test place ≡ true → every test (without index places) ≡ true
        → every test (cond same (without index places) (place ∷ without index places)) ≡ true
    by_test true p r = r
    by_test false p r = rw p r

length_without : (index : ℕ) (places : List Listed) → length (without index places) ≤ length places
unfolding without
length_without index [] = omega arith
length_without index (place ∷ places) = by_test (eqb place.index index) (length_without index places)
  where
    by_test : (same : Bool) → length (without index places) ≤ length places
        → length (cond same (without index places) (place ∷ without index places)) ≤ suc (length places)
    by_test true r = omega arith
    by_test false r = omega arith

pub every_replicate : {A : Type 0} (test : A → Bool) (n : ℕ) (x : A) → test x ≡ true → every test (replicate n x) ≡ true
every_replicate test zero x h = refl
every_replicate test (suc n) x h = rw h (every_replicate test n x h)

module _ (page : Page) (index span : ℕ) (code : AsInCode page) (f : Fit page) (known : is_uninitialized page.state ≡ false)
    (room : index + span ≤ 126) (all : all_written page.map index span ≡ true) where
  abbrev kept : List Listed
  kept = without index (in_use page)

  fewer : count_in Written (states_of (mark_range Erased index span page.map)) + span ≡ count_in Written (states_of page.map)
  fewer =
      rw (states_of-mark_range Erased index span (bytes_of page.map code.1))
      (count_in_erased index span (states_of page.map) (omega (arith, length-states_of page.map code.0)) all)

  erased_len : length kept ≤ page.used + page.erased
  erased_len = omega (arith, length_without index (in_use page), length-take page.len page.list, f.len_fits)

  erased_fit : fit_to_use (with_erased page index span) ≡ true
  unfolding with_erased
  erased_fit =
      let less = fewer in
      fit_of (with_erased page index span)
      (record {
        counts = omega (arith, f.counts, f.written_fits_lem);
        len_fits = omega (arith, erased_len, f.written_fits_lem);
        written_fits_lem = omega (arith, f.written_fits_lem);
        listed_fit_lem = rw (take-append_seam kept (replicate (126 - length kept) no_item)) (every_without place_fits index (in_use page) f.listed_fit_lem);
        behind_zero_lem = rw (drop-append_seam kept (replicate (126 - length kept) no_item)) (every_replicate place_zero (126 - length kept) no_item refl);
        blank_fits_lem = known_fits (with_erased page index span) known;
      })

-- ---- each call

pub hash_short : (namespace : ℕ) (key : List ℕ) (chunk : ℕ) → hash_of namespace key chunk < 2 ^ 24
unfolding hash_of
hash_short namespace key chunk = omega arith

put_fit : (new : PutRequest) (image : List ℕ) (page : Page) → AsInCode page → accepted (checks_of (putting new) image page) ≡ true
    → (namespace : ℕ) (key : List ℕ) (chunk : ℕ) → fit_to_use (with_item page (span_of_new new) namespace (hash_of namespace key chunk)) ≡ true
put_fit new image page code h namespace key chunk =
    let a = accepts new image page h in
    item_fit page (span_of_new new) namespace (hash_of namespace key chunk) code (fit_clauses page a.fit) a.active a.one a.room (hash_short namespace key chunk)

new_fit : (call : Call) (image : List ℕ) (page : Page) → AsInCode page → accepted (checks_of call image page) ≡ true → fit_to_use (new_of call page) ≡ true
new_fit (initialising sequence) image page code h =
    initialised_fit page sequence (accepted_usable image page (not (is_uninitialized page.state)) (drop 3 (initialise_checks image page)) h).fit
new_fit marking_full image page code h = marked_full_fit page (accepted_usable image page (not (is_active page.state)) [] h).fit
new_fit (putting (single item)) image page code h = put_fit (single item) image page code h item.namespace item.key item.chunk
new_fit (putting (variable item payload)) image page code h = put_fit (variable item payload) image page code h item.namespace item.key item.chunk
new_fit (putting (copied source i)) image page code h =
    let entry = entry_at source i in put_fit (copied source i) image page code h (namespace_of entry) (key_of entry) (chunk_of entry)
new_fit (erasing index span) image page code h =
    let u = accepted_usable image page (not (is_in_use page.state)) (drop 3 (erase_checks image page index span)) h in
    let wrong = eqb span 0 || ltb 126 (index + span) in
    let missing = not (all_written page.map index span) in
    let range = accepted_head wrong CorruptedData ((missing, NotWritten) ∷ []) u.rest in
    let marks = accepted_head missing NotWritten [] (accepted_tail wrong CorruptedData ((missing, NotWritten) ∷ []) u.rest) in
    erased_fit page index span code (fit_clauses page u.fit) (known_state is_in_use refl page.state (not-false (is_in_use page.state) u.state))
    (ltb-false 126 (index + span) (neither (eqb span 0) (ltb 126 (index + span)) range).1) (not-false (all_written page.map index span) marks)
new_fit (purging namespace) image page code h =
    not-false (fit_to_use page) (accepted_head (not (fit_to_use page)) BadRecord [] (accepted_tail (bad_image image).0 BadImage (bad_record page ∷ []) h))

pub done_hands_back_fit : DoneHandsBackFit
done_hands_back_fit call image page n code d =
    let t = told call image page n in
    let facts = done_only (checks_of call image page) (checks_refuse call image page) (stops t.count (plan_of call image page)) page (new_of call page)
    (sym (ap (λ (o : Outcome). o.answer) t.outcome_is) ∙ d) in
    ap (λ (o : Outcome). fit_to_use o.page) t.outcome_is ∙ ap fit_to_use facts.2 ∙ new_fit call image page code facts.0
