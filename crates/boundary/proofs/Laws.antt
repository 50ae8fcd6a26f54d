-- Laws of the boundary: the test of a buffer's length, by the length; what is given of a call's result; what a writing call
-- hands back, by the record that its bytes hold.
use mathlib.Core.Path.{◌≡◌, refl, ap, ◌∙◌}
use mathlib.Core.Bool.{Bool, true, false, cond, not}
use mathlib.Core.List.{List}
use Prim.Native.Nat.{ℕ}
use lib.Dec.{eqb, ltb}
use lib.ListN.{length}
use borrow.Author.Tests.{eq-eqb, ne_eqb}
use Rattle.std.specs.Prelude.{Result, Ok, Err, IsOkAnd, MatchResult}
use Rattle.sector.specs.declared.EntryMapState.{EntryMapState}
use Rattle.sector.specs.declared.EntryMapState.TheVariants.{Erased}
use Rattle.sector.specs.declared.Refusal.{Refusal}
use Rattle.sector.specs.declared.Refusal.TheVariants.{ItemTypeMismatch, CorruptedData, Stopped}
use Rattle.sector.specs.Answers.{Answer, Done, number_of, carried_byte, value_where_done, answer_in, value_in, Check, refusal, accepted}
use Rattle.sector.specs.Layout.{entries_per_page, entry_at, size_of}
use Rattle.sector.specs.Map.{StateAnswer, bits_of, state_at, entry_state}
use Rattle.sector.specs.Types.{WidthAnswer, item_type, type_byte, width_of, primitive_width}
use Rattle.sector.proofs.Laws.{answer_given}
use Rattle.page.specs.Record.{Page, uninitialized}
use Rattle.page.specs.Writing.{Outcome, answered, outcome}
use Rattle.call_load.specs.Load.{Loaded, refused_item, loaded_or}
use Rattle.call_load_data.specs.Payload.{DataLoaded, data_checks, data_answer}
use Rattle.boundary_encoding.specs.Encoding.{record_of, record_bytes, answer_bytes, zero_item, no_counts, wrong_size}
use Rattle.boundary_results.specs.Handing.{record_left}

pub wrong_size_lem : (size : ℕ) (bytes : List ℕ) → (length bytes ≡ size → ⊥) → wrong_size size bytes ≡ true
wrong_size_lem size bytes h = ap not (ne_eqb (length bytes) size h)

pub right_size : (size : ℕ) (bytes : List ℕ) → length bytes ≡ size → wrong_size size bytes ≡ false
right_size size bytes h = ap not (eq-eqb (length bytes) size h)

-- ---- what is given of a call's result, by the answer and the value that it carries

pub number_given : (answer : Answer) (value : ℕ) {found : Result ℕ Refusal} {number : ℕ} {buffer : List ℕ}
    → found ≡ value_where_done answer value → value_in 0 (value_where_done answer value) ≡ value
    → (number ≡ number_of (answer_in found)) × (buffer ≡ answer_bytes (carried_byte (answer_in found)) (value_in 0 found) zero_item no_counts)
    → (number ≡ number_of answer) × (buffer ≡ answer_bytes (carried_byte answer) value zero_item no_counts)
number_given answer value {found} e none given =
    let answered_as : answer_in found ≡ answer = ap answer_in e ∙ answer_given answer value in
    let valued : value_in 0 found ≡ value = ap (value_in 0) e ∙ none in
    (given.0 ∙ ap number_of answered_as, given.1 ∙ rw (answered_as, valued) refl)

pub item_given : (answer : Answer) (item : List ℕ) {found : Result (List ℕ) Refusal} {number : ℕ} {buffer : List ℕ}
    → found ≡ value_where_done answer item → value_in zero_item (value_where_done answer item) ≡ item
    → (number ≡ number_of (answer_in found)) × (buffer ≡ answer_bytes (carried_byte (answer_in found)) 0 (value_in zero_item found) no_counts)
    → (number ≡ number_of answer) × (buffer ≡ answer_bytes (carried_byte answer) 0 item no_counts)
item_given answer item {found} e none given =
    let answered_as : answer_in found ≡ answer = ap answer_in e ∙ answer_given answer item in
    let valued : value_in zero_item found ≡ item = ap (value_in zero_item) e ∙ none in
    (given.0 ∙ ap number_of answered_as, given.1 ∙ rw (answered_as, valued) refl)

-- with a refusal the definitions' values are what stands for none

abbrev WidthLeft : WidthAnswer → Type 0
WidthLeft found = value_in 0 (value_where_done found.answer found.width) ≡ found.width

pub width_none : (byte : ℕ) → value_in 0 (value_where_done (primitive_width byte).answer (primitive_width byte).width) ≡ (primitive_width byte).width
unfolding primitive_width
width_none byte = go (eqb (width_of (item_type byte)) 0)
  where
    go : (refused : Bool)
        → WidthLeft (cond refused (record { answer = Err (ItemTypeMismatch (type_byte byte)); width = 0 }) (record { answer = Done; width = width_of (item_type byte) }))
    go true = refl
    go false = refl

abbrev StateLeft : StateAnswer → Type 0
StateLeft found = value_in 0 (value_where_done found.answer (bits_of found.state)) ≡ bits_of found.state

pub state_none : (map : List ℕ) (i : ℕ)
    → value_in 0 (value_where_done (entry_state map i).answer (bits_of (entry_state map i).state)) ≡ bits_of (entry_state map i).state
unfolding entry_state
state_none map i = go (ltb i entries_per_page)
  where
    go : (inside : Bool) → StateLeft (cond inside (record { answer = Done; state = state_at map i }) (record { answer = Err CorruptedData; state = Erased }))
    go true = refl
    go false = refl

-- the two bits of the state that is found
pub bits_given : (answer : Answer) (state : EntryMapState) (found : Result EntryMapState Refusal) (bits : Result ℕ Refusal)
    → found ≡ value_where_done answer state
    → MatchResult found (λ s. IsOkAnd bits (λ n. n ≡ bits_of s)) (λ refused. bits ≡ Err refused)
    → bits ≡ value_where_done answer (bits_of state)
bits_given answer state found bits e cases = go answer bits (rw e at cases)
  where
    go : (answer : Answer) (bits : Result ℕ Refusal)
        → MatchResult (value_where_done answer state) (λ s. IsOkAnd bits (λ n. n ≡ bits_of s)) (λ refused. bits ≡ Err refused)
        → bits ≡ value_where_done answer (bits_of state)
    go (Ok done) (Ok n) h = ap Ok h
    go (Ok done) (Err refused) h = absurd h
    go (Err refused) bits h = h

-- of a refusal with no value
none_refused : {A : Type 0} (none : A) (answer : Answer) → value_in none (value_where_done answer none) ≡ none
none_refused none (Ok done) = refl
none_refused none (Err refused) = refl

abbrev ItemLeft : Loaded → Type 0
ItemLeft found = value_in zero_item (value_where_done found.answer found.item) ≡ found.item

pub loaded_none : (checks : List Check) (item : List ℕ)
    → value_in zero_item (value_where_done (loaded_or checks item).answer (loaded_or checks item).item) ≡ (loaded_or checks item).item
loaded_none checks item = go (accepted checks)
  where
    go : (accepts : Bool) → ItemLeft (cond accepts (record { answer = Done; item = item }) (refused_item (refusal checks)))
    go true = refl
    go false = none_refused zero_item (refusal checks)

abbrev SizeLeft : DataLoaded → Type 0
SizeLeft found = value_in 0 (value_where_done found.answer found.size) ≡ found.size

pub size_none : (image : List ℕ) (i room : ℕ)
    → value_in 0 (value_where_done (data_answer image i room).answer (data_answer image i room).size) ≡ (data_answer image i room).size
unfolding data_answer
size_none image i room = go (accepted (data_checks image i room))
  where
    go : (accepts : Bool)
        → SizeLeft (cond accepts (record { answer = Done; size = size_of (entry_at image i) }) (record { answer = refusal (data_checks image i room); size = 0 }))
    go true = refl
    go false = none_refused 0 (refusal (data_checks image i room))

-- ---- a call over the record that was read out of its bytes, and what is handed back of it

pub called_over : (call : Page → Outcome) (after : Page → List ℕ) (buffer : List ℕ)
    {page left : Page} {answer : Answer} {exit last : List ℕ} {number : ℕ}
    → page ≡ record_of buffer → answer ≡ (call page).answer → left ≡ (call page).page → exit ≡ after page
    → (number ≡ number_of answer) × (last ≡ record_left buffer (answered answer left))
    → (number ≡ number_of (call (record_of buffer)).answer)
    × ((exit ≡ after (record_of buffer)) × (last ≡ record_left buffer (call (record_of buffer))))
called_over call after buffer {page} {left} {answer} read called recorded ends handed =
    let made : answered answer left ≡ call (record_of buffer) = rw (called, recorded) (ap call read) in
    (handed.0 ∙ ap (λ (o : Outcome). number_of o.answer) made, (ends ∙ ap after read, handed.1 ∙ ap (record_left buffer) made))

-- a call that leaves its record as it came
pub same_record : (checks : List Check) (stopped : Bool) (page : Page) → page ≡ (outcome checks stopped page page).page
same_record checks stopped page = go (accepted checks) stopped
  where
    go : (accepts stopped : Bool)
        → page ≡ (cond accepts (cond stopped (answered (Err Stopped) page) (answered Done page)) (answered (refusal checks) page)).page
    go true true = refl
    go true false = refl
    go false stopped = refl

-- opening, and what is handed back of it
pub opened_as : (after : List ℕ) (defined : Outcome) {opened : Result Page Refusal} {exit last : List ℕ} {number : ℕ}
    → opened ≡ value_where_done defined.answer defined.page → value_in uninitialized (value_where_done defined.answer defined.page) ≡ defined.page
    → exit ≡ after
    → (number ≡ number_of (answer_in opened)) × (last ≡ record_bytes (value_in uninitialized opened))
    → (number ≡ number_of defined.answer) × ((exit ≡ after) × (last ≡ record_bytes defined.page))
opened_as after defined {opened} e none ends handed =
    let answered_as : answer_in opened ≡ defined.answer = ap answer_in e ∙ answer_given defined.answer defined.page in
    let valued : value_in uninitialized opened ≡ defined.page = ap (value_in uninitialized) e ∙ none in
    (handed.0 ∙ ap number_of answered_as, (ends, handed.1 ∙ ap record_bytes valued))
