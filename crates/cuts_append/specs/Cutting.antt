-- Power cuts, run (01, 'Programming', 'Opening'): an append stopped after n units, the page opened, and what was found.
--
-- In order: the append; the cut; how many units there are; the two sectors that a cut may leave, by their items and bytes; what was
-- found; runs of cuts that are found alike; bytes for an item.
use Rattle.std.specs.Prelude.{◌≡◌, Bool, true, false, ◌&&◌, cond, List, [], ◌∷◌, ◌++◌, ℕ, zero, suc, ◌+◌, ◌-◌, ◌*◌, ◌%◌, eqb, leb, length, bytes_eq}
use Rattle.std.specs.Cmp.Lexicographic.{pointwise}
use Rattle.call_append.specs.declared.Single.{Single}
use Rattle.call_append.specs.declared.Variable.{Variable}
use Rattle.call_append.specs.Append.{single_checks, single_plan, append_single, append_single_image, variable_checks, variable_plan, append_variable, append_variable_image}
use Rattle.flash.specs.Flash.{Unit4}
use Rattle.opening.specs.Opening.{opening, opening_image}
use Rattle.page.specs.declared.Listed.{Listed}
use Rattle.page.specs.Record.{Page, next_free, uninitialized}
use Rattle.page.specs.Writing.{Outcome}
use Rattle.sector.specs.Answers.{Answer, Check, accepted, number_of, answer_in, value_in}
use Rattle.sector.specs.Layout.{entries_per_page, field}
use Rattle.cuts_append.specs.declared.Cut.{Cut as CutLeft}
use Rattle.cuts_request.specs.declared.Request.{Request}
use Rattle.cuts_request.specs.declared.Value.{Value}
use Rattle.cuts_request.specs.declared.Value.TheVariants.{Single as SingleValue, Data}
use Rattle.cuts_append.specs.declared.Sector.{Sector}
pub use Rattle.cuts_append.specs.declared.Found.{Found}
pub use Rattle.cuts_append.specs.declared.Found.TheVariants.{Absent, Whole, Otherwise}

-- ---- the append

-- a single entry: span 1, no chunk
abbrev pub single_asked : Request → List ℕ → Single
single_asked request bytes =
    record {
      namespace = request.namespace;
      kind = request.kind;
      span = 1;
      chunk = 0xFF;
      key = request.key;
      bytes = bytes;
    }

-- data: no chunk
abbrev pub variable_asked : Request → Variable
variable_asked request =
    record { namespace = request.namespace; kind = request.kind; chunk = 0xFF; key = request.key }

-- what is so of a single entry with these bytes, or of data
abbrev pub by_value : {A : Type 0} → Value → (List ℕ → A) → A → A
by_value (SingleValue bytes) single other = single bytes
by_value Data single other = other

unfoldable pub appended : List ℕ → Page → Request → List ℕ → ℕ → Outcome
appended image page request payload n =
    by_value request.value
    (λ bytes. append_single image page (single_asked request bytes) n)
    (append_variable image page (variable_asked request) payload n)

unfoldable pub appended_image : List ℕ → Page → Request → List ℕ → ℕ → List ℕ
appended_image image page request payload n =
    by_value request.value
    (λ bytes. append_single_image image page (single_asked request bytes) n)
    (append_variable_image image page (variable_asked request) payload n)

-- what an append answers, and the sector that it leaves
pub record Finished : Type 0 where
  pub answer : Answer
  pub sector : Sector

-- what the append stopped after n units answers and leaves
abbrev pub left_after : Sector → Request → List ℕ → ℕ → Finished
left_after before request payload n =
    record {
      answer = (appended before.image before.page request payload n).answer;
      sector =
          record {
            image = appended_image before.image before.page request payload n;
            page = (appended before.image before.page request payload n).page;
          };
    }

-- ---- the cut

-- a cut: what the append answered, what opening then answered, and the sector that it left
pub record Cut : Type 0 where
  pub answer : Answer
  pub opened : Answer
  pub sector : Sector

-- the cut that the code hands back; where opening refuses, its record is the Uninitialized one
abbrev pub cut_of : CutLeft → Cut
cut_of cut =
    record {
      answer = cut.answer;
      opened = answer_in cut.opened;
      sector = record { image = cut.image; page = value_in uninitialized cut.opened };
    }

-- what the stopped append answers; what opening answers then, and leaves
abbrev pub cut_after : Sector → Request → List ℕ → ℕ → Cut
cut_after before request payload n =
    let image = appended_image before.image before.page request payload n in
    record {
      answer = (appended before.image before.page request payload n).answer;
      opened = (opening image).answer;
      sector = record { image = opening_image image; page = (opening image).page };
    }

-- more units than any append has
abbrev pub most : ℕ
most = 1100

-- what the append that nothing stops answers and leaves
abbrev pub finished_by : Sector → Request → List ℕ → Finished
finished_by before request payload = left_after before request payload most

-- ---- the units

-- the first number from n on at which a test fails; n + more where it holds for so many
unfoldable pub first_not : (ℕ → Bool) → ℕ → ℕ → ℕ
first_not test n zero = n
first_not test n (suc more) = cond (test n) (first_not test (n + 1) more) n

-- the append stopped after n units answers Stopped
abbrev pub is_stopped : Sector → Request → List ℕ → ℕ → Bool
is_stopped before request payload n =
    eqb (number_of (appended before.image before.page request payload n).answer) 11

-- the first n at which the append is not stopped; 0 where it is refused
abbrev pub unit_count : Sector → Request → List ℕ → ℕ
unit_count before request payload = first_not (is_stopped before request payload) 0 most

-- the checks of the request's append, in 01's order
abbrev pub request_checks : List ℕ → Page → Request → List ℕ → List Check
request_checks image page request payload =
    by_value request.value
    (λ bytes. single_checks image page (single_asked request bytes))
    (variable_checks image page (variable_asked request) payload)

-- the units that the request's append programs
abbrev pub request_plan : Page → Request → List ℕ → List Unit4
request_plan page request payload =
    by_value request.value
    (λ bytes. single_plan page (single_asked request bytes))
    (variable_plan page (variable_asked request) payload)

-- a single has eight bytes
abbrev pub HasEight : Value → Type 0
HasEight (SingleValue bytes) = length bytes ≡ 8
HasEight Data = Unit {0}

-- what is counted is the plan, where no check refuses
abbrev pub CountsThePlan : Type 0
CountsThePlan =
    (before : Sector) (request : Request) (payload : List ℕ) → length request.key ≡ 16 → HasEight request.value
    → unit_count before request payload
    ≡ cond (accepted (request_checks before.image before.page request payload)) (length (request_plan before.page request payload)) 0

-- ---- two sectors

-- the same hash and the same index
abbrev pub same_place : Listed → Listed → Bool
same_place place other = eqb place.hash other.hash && eqb place.index other.index

abbrev pub same_list : List Listed → List Listed → Bool
same_list = pointwise same_place

-- as many entries used, and the same list
abbrev pub same_items : Page → Page → Bool
same_items page other =
    eqb page.used other.used && (eqb page.len other.len && same_list page.list other.list)

-- the first `count` entries have the same bytes; false where there are not so many
abbrev pub same_entries : List ℕ → List ℕ → ℕ → Bool
same_entries image other count =
    leb count entries_per_page && bytes_eq (field 64 (32 * count) image) (field 64 (32 * count) other)

-- the items of the second, with the bytes of all entries that are not free there
abbrev pub same_sector : Sector → Sector → Bool
same_sector sector other =
    same_items sector.page other.page && same_entries sector.image other.image (next_free other.page)

-- ---- what was found

-- opening answers Done, and finds the sector from before the append, or the one from after it
abbrev pub found_in : Sector → Sector → Cut → Found
found_in before after cut =
    cond (eqb (number_of cut.opened) 0)
    (cond (same_sector cut.sector before) Absent (cond (same_sector cut.sector after) Whole Otherwise))
    Otherwise

abbrev pub found_after : Sector → Sector → Request → List ℕ → ℕ → Found
found_after before after request payload n = found_in before after (cut_after before request payload n)

abbrev pub same_found : Found → Found → Bool
same_found Absent Absent = true
same_found Absent Whole = false
same_found Absent Otherwise = false
same_found Whole Absent = false
same_found Whole Whole = true
same_found Whole Otherwise = false
same_found Otherwise Absent = false
same_found Otherwise Whole = false
same_found Otherwise Otherwise = true

-- ---- runs of cuts

-- the last cut from `first` to `last` up to which all are found as the first is; `first` where it is over `last`
abbrev pub last_alike : Sector → Sector → Request → List ℕ → ℕ → ℕ → ℕ
last_alike before after request payload first last =
    first_not
    (λ n. same_found (found_after before after request payload first) (found_after before after request payload (n + 1)))
    first (last - first)

-- ---- bytes for an item

-- 0, 1 and so on, and after 250 from 0 again
unfoldable pub curve : ℕ → List ℕ
curve zero = []
curve (suc n) = curve n ++ (n % 251 ∷ [])
