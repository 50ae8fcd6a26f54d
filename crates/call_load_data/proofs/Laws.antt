-- Laws of load data: what its checks leave known, what it answers, and the output that it leaves.
use mathlib.Core.Path.{◌≡◌, refl, sym, ap, ◌∙◌}
use mathlib.Core.Bool.{true, false, cond}
use mathlib.Core.List.{List, [], ◌∷◌, ◌++◌}
use Prim.Native.Nat.{ℕ, ◌+◌, ◌-◌, ◌*◌, ◌≤◌, ◌<◌}
use native.Mathlib.Omega.{arith}
use borrow.Author.Tests.{ltb-true, ltb-false, eqb-true, not-false}
use lib.ListN.{length, take, drop, get_or, length-append, length-take, length-drop}
use Rattle.std.specs.Prelude.{Result, Ok, Err, is_ok}
use Rattle.sector.specs.declared.Refusal.{Refusal}
use Rattle.sector.specs.declared.Refusal.TheVariants.{Stopped}
use Rattle.sector.specs.Answers.{Answer, Done, Check, refusal, accepted, value_where_done}
use Rattle.sector.specs.Layout.{sector_size, entries_per_page, entry_size, entry_address, entry_at, span_of, size_of}
use Rattle.sector.proofs.Laws.{accepted_append, accepted_at, accepted_done, accepted_refused, refusal_refused, refusal_passed}
use Rattle.call_load.specs.Load.{load_checks}
use Rattle.call_load.proofs.Laws.{read, read_item, read_refusal}
use Rattle.call_load_data.specs.Payload.{DataLoaded, rounded_up, payload_checks, data_checks, data_answer, data_output}

-- ---- its checks

-- what passes all of load data's checks
pub record DataFits (image : List ℕ) (i room : ℕ) : Type 0 where
  pub whole : length image ≡ sector_size
  pub inside : i < entries_per_page
  pub spans : i + span_of (entry_at image i) ≤ entries_per_page
  pub holds : size_of (entry_at image i) ≤ entry_size * (span_of (entry_at image i) - 1)
  pub room_fits : rounded_up (size_of (entry_at image i)) ≤ room

pub data_fits : (image : List ℕ) (i room : ℕ) → accepted (data_checks image i room) ≡ true → DataFits image i room
data_fits image i room h =
    let at : (n : ℕ) → (get_or (data_checks image i room) n (false, Stopped)).0 ≡ false =
    λ n. accepted_at (data_checks image i room) n h in
    record {
      whole = eqb-true _ _ (not-false _ (at 0));
      inside = ltb-true _ _ (not-false _ (at 1));
      spans = ltb-false _ _ (at 5);
      holds = ltb-false _ _ (at 6);
      room_fits = ltb-false _ _ (at 7);
    }

-- and its data lies inside the image
pub data_inside : (image : List ℕ) (i room : ℕ) → DataFits image i room
    → entry_address (i + 1) + rounded_up (size_of (entry_at image i)) ≤ length image
data_inside image i room fit = omega arith

-- ---- what load data answers, and the output that it leaves

-- the size, or the first refusal
abbrev pub answered : List ℕ → ℕ → ℕ → Result ℕ Refusal
answered image i room = value_where_done (data_answer image i room).answer (data_answer image i room).size

answered_by : (checks : List Check) (size : ℕ) {loaded : DataLoaded}
    → loaded ≡ cond (accepted checks) (record { answer = Done; size = size }) (record { answer = refusal checks; size = 0 })
    → value_where_done loaded.answer loaded.size ≡ value_where_done (refusal checks) size
answered_by [] size e = rw e
answered_by ((true, refused) ∷ checks) size e = rw e
answered_by ((false, refused) ∷ checks) size e = answered_by checks size e

module _ (image : List ℕ) (i : ℕ) (output : List ℕ) where
  -- the first refusal, which leaves the output
  refused_first : {refused : Refusal} {result : Result ℕ Refusal} → Err refused ≡ refusal (data_checks image i (length output)) → result ≡ Err refused
      → (result ≡ answered image i (length output)) × (output ≡ data_output image i output)
  unfolding data_answer data_output
  refused_first e r =
      let checks = data_checks image i (length output) in
      let size = size_of (entry_at image i) in (
        r ∙ ap (λ (answer : Answer). value_where_done answer size) e ∙ sym (answered_by checks size refl),
        rw (accepted_refused checks e refl),
      )

  -- load's
  pub refused_loading : {refused : Refusal} {result : Result ℕ Refusal} → Err refused ≡ read (load_checks image i) (entry_at image i) → result ≡ Err refused
      → (result ≡ answered image i (length output)) × (output ≡ data_output image i output)
  refused_loading e r =
      let loading = load_checks image i in
      let first = read_refusal loading (entry_at image i) e in
      refused_first (refusal_refused loading (payload_checks (entry_at image i) i (length output)) (accepted_refused loading first refl) first) r

  -- the payload's
  pub refused_payload : {item : List ℕ} {refused : Refusal} {result : Result ℕ Refusal} → Ok item ≡ read (load_checks image i) (entry_at image i)
      → Err refused ≡ refusal (payload_checks item i (length output)) → result ≡ Err refused
      → (result ≡ answered image i (length output)) × (output ≡ data_output image i output)
  refused_payload e p r =
      let loaded = read_item (load_checks image i) (entry_at image i) e in
      let first = rw loaded.same at p in
      refused_first (refusal_passed (load_checks image i) (payload_checks (entry_at image i) i (length output)) loaded.passed first) r

-- an item that passes all checks is the entry, and its data lies inside the image
pub record Reads (image : List ℕ) (i room : ℕ) (item : List ℕ) : Type 0 where
  pub passed : accepted (data_checks image i room) ≡ true
  pub same : item ≡ entry_at image i
  pub fits : DataFits image i room

pub reads_data : (image : List ℕ) (i room : ℕ) {item : List ℕ} {answer : Answer} → Ok item ≡ read (load_checks image i) (entry_at image i)
    → answer ≡ refusal (payload_checks item i room) → is_ok answer ≡ true → Reads image i room item
reads_data image i room e p done =
    let entry = entry_at image i in
    let loaded = read_item (load_checks image i) entry e in
    let first = rw loaded.same at p in
    let passed : accepted (data_checks image i room) ≡ true =
    rw (accepted_append (load_checks image i) (payload_checks entry i room), loaded.passed) (accepted_done (payload_checks entry i room) first done) in
    record { passed = passed; same = loaded.same; fits = data_fits image i room passed }

pub data_lies : (image : List ℕ) (i room : ℕ) {item : List ℕ} {size n start : ℕ} → Reads image i room item
    → size ≡ size_of item → n ≡ rounded_up size → start ≡ entry_address (i + 1) → start + n ≤ length image
data_lies image i room reads s r a = rw (a, r, s, reads.same) (data_inside image i room reads.fits)

-- and it fits the output
pub data_room : (image : List ℕ) (i room : ℕ) {item : List ℕ} {size n : ℕ} → Reads image i room item
    → size ≡ size_of item → n ≡ rounded_up size → n ≤ room
data_room image i room reads s r = rw (r, s, reads.same) reads.fits.room_fits

-- as many bytes from there on are copied to the start of the output
pub data_read : (image output : List ℕ) (i : ℕ) {item : List ℕ} {size n start : ℕ} → Reads image i (length output) item
    → size ≡ size_of item → n ≡ rounded_up size → start ≡ entry_address (i + 1)
    → (Ok size ≡ answered image i (length output)) × (take (start + n - start) (drop start image) ++ drop n output ≡ data_output image i output)
unfolding data_answer data_output
data_read image output i {item} {size} {n} {start} reads s r a =
    let long : start + n - start ≡ n = omega arith in
    let sized : size ≡ size_of (entry_at image i) = s ∙ ap size_of reads.same in
    (rw (reads.passed, sized), rw (reads.passed, long, r, a, sized))

-- ---- a part of the image, copied

pub length_part : (image : List ℕ) (start n : ℕ) → start + n ≤ length image
    → length (take (start + n - start) (drop start image)) ≡ n
length_part image start n h = simp (length-take, length-drop) (omega arith)

pub part_copied : (image output : List ℕ) (start n : ℕ) → start + n ≤ length image
    → let part = take (start + n - start) (drop start image) in
    part ++ drop (length part) output ≡ take n (drop start image) ++ drop n output
part_copied image output start n h =
    let e : start + n - start ≡ n = omega arith in
    rw (length_part image start n h, e)

-- after k bytes the output is as long as before
pub length_copied : (part into : List ℕ) (k : ℕ) → k ≤ length part → k ≤ length into
    → length (take k part ++ drop k into) ≡ length into
length_copied part into k inside room = simp (length-append, length-take, length-drop) (omega arith)
