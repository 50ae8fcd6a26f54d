-- What a C function returns and leaves in its buffers: the public call's results, encoded as Encoding says.
--
-- In order: sizes; what a call with an answer leaves, and each such call; what a writing call leaves, and each such call.
-- BadCall is for a buffer of fixed size that has another length. It is checked before everything else, and changes nothing.
-- Not here: the calls that hand back a number alone, which say all in their contracts.
use Rattle.std.specs.Prelude.{Bool, ◌||◌, cond, List, ℕ, length}
use Rattle.sector.specs.declared.Statistics.{Statistics}
use Rattle.sector.specs.Answers.{Done, Answer, number_of, carried_byte}
use Rattle.sector.specs.Header.{header_crc}
use Rattle.sector.specs.Item.{item_crc, hash_of}
use Rattle.sector.specs.Layout.{entries_per_page, chunks}
use Rattle.sector.specs.Map.{bits_of, entry_state, statistics}
use Rattle.sector.specs.Types.{primitive_width}
use Rattle.call_append.specs.declared.Single.{Single}
use Rattle.call_append.specs.declared.Variable.{Variable}
use Rattle.call_append.specs.Append.{namespace_item, append_single, append_single_image, append_variable, append_variable_image}
use Rattle.call_hash_bound.specs.Bound.{hash_bound}
use Rattle.call_copy.specs.Copy.{copy_in, copy_in_image}
use Rattle.call_erase.specs.Erase.{erase, erase_image}
use Rattle.call_purge_namespace.specs.PurgeNamespace.{purge_namespace, purge_namespace_image}
use Rattle.call_page_state.specs.Calls.{initialise, initialise_image, mark_full, mark_full_image}
use Rattle.call_load.specs.Load.{raw_entry, load_item}
use Rattle.call_load_data.specs.Payload.{data_answer, data_output}
use Rattle.opening.specs.Opening.{opening, opening_image, opening_stopped, opening_stopped_image}
use Rattle.boundary_results.specs.Handing.{record_left}
use Rattle.boundary_encoding.specs.Encoding.{record_size, record_bytes, record_of, answer_size, answer_bytes, zero_item, no_counts, wrong_size}
use Rattle.page.specs.Writing.{Outcome}

-- ---- sizes

abbrev pub bad_call : ℕ
bad_call = 255

abbrev pub key_size : ℕ
key_size = 16

abbrev pub map_size : ℕ
map_size = 32

-- of an item and of a page header
abbrev pub item_size : ℕ
item_size = 32

-- of all 126 entries
abbrev pub entries_size : ℕ
entries_size = 4032

-- of the data of a single
abbrev pub single_size : ℕ
single_size = 8

-- ---- a call with an answer

-- its number, and its answer's buffer
pub record Given : Type 0 where
  pub number : ℕ
  pub buffer : List ℕ

-- type byte, number, item and counts; those that a call does not use are zero
abbrev pub given : Bool → List ℕ → Answer → ℕ → List ℕ → Statistics → Given
given bad buffer answer value item counts =
    record {
      number = cond bad bad_call (number_of answer);
      buffer = cond bad buffer (answer_bytes (carried_byte answer) value item counts);
    }

abbrev pub bad_answer : List ℕ → Bool
bad_answer buffer = wrong_size answer_size buffer

-- the number is the CRC of an item as it stands
unfoldable pub item_crc_given : List ℕ → List ℕ → Given
item_crc_given item buffer = given (bad_answer buffer || wrong_size item_size item) buffer Done (item_crc item) zero_item no_counts

-- the number is the CRC of a page's header as it stands
unfoldable pub header_crc_given : List ℕ → List ℕ → Given
header_crc_given header buffer = given (bad_answer buffer || wrong_size item_size header) buffer Done (header_crc header) zero_item no_counts

-- the number is the hash
unfoldable pub hash_given : ℕ → List ℕ → ℕ → List ℕ → Given
hash_given namespace key chunk buffer =
    given (bad_answer buffer || wrong_size key_size key) buffer Done (hash_of namespace key chunk) zero_item no_counts

unfoldable pub width_given : ℕ → List ℕ → Given
width_given byte buffer =
    given (bad_answer buffer) buffer (primitive_width byte).answer (primitive_width byte).width zero_item no_counts

unfoldable pub load_given : List ℕ → ℕ → List ℕ → Given
load_given image i buffer =
    given (bad_answer buffer) buffer (load_item image i).answer 0 (load_item image i).item no_counts

unfoldable pub raw_given : List ℕ → ℕ → List ℕ → Given
raw_given image i buffer =
    given (bad_answer buffer) buffer (raw_entry image i).answer 0 (raw_entry image i).item no_counts

-- the number is the size
unfoldable pub data_given : List ℕ → ℕ → List ℕ → List ℕ → Given
data_given image i output buffer =
    given (bad_answer buffer) buffer (data_answer image i (length output)).answer (data_answer image i (length output)).size zero_item no_counts

unfoldable pub data_left : List ℕ → ℕ → List ℕ → List ℕ → List ℕ
data_left image i output buffer = cond (bad_answer buffer) output (data_output image i output)

-- a map beside the answer
abbrev pub bad_map : List ℕ → List ℕ → Bool
bad_map map buffer = bad_answer buffer || wrong_size map_size map

-- the number is the two bits
unfoldable pub state_given : List ℕ → ℕ → List ℕ → Given
state_given map i buffer =
    given (bad_map map buffer) buffer (entry_state map i).answer (bits_of (entry_state map i).state) zero_item no_counts

unfoldable pub statistics_given : List ℕ → List ℕ → Given
statistics_given map buffer = given (bad_map map buffer) buffer Done 0 zero_item (statistics map)

unfoldable pub bound_given : List ℕ → List ℕ → List ℕ → Given
bound_given map entries buffer =
    given (bad_map map buffer || wrong_size entries_size entries) buffer
    Done (hash_bound map (chunks entries_per_page entries)) zero_item no_counts

-- ---- a writing call

-- its number, its image, and its record's buffer
pub record Left : Type 0 where
  pub number : ℕ
  pub image : List ℕ
  pub buffer : List ℕ

-- an outcome and the image after it
abbrev pub left : Bool → List ℕ → List ℕ → Outcome → List ℕ → Left
left bad image buffer outcome after =
    record {
      number = cond bad bad_call (number_of outcome.answer);
      image = cond bad image after;
      buffer = cond bad buffer (record_left buffer outcome);
    }

abbrev pub bad_record_size : List ℕ → Bool
bad_record_size buffer = wrong_size record_size buffer

-- the record is only written, on a refusal and a stop too: it is the Uninitialized one then
abbrev pub opened_left : List ℕ → List ℕ → Outcome → List ℕ → Left
opened_left image buffer outcome after =
    record {
      number = cond (bad_record_size buffer) bad_call (number_of outcome.answer);
      image = cond (bad_record_size buffer) image after;
      buffer = cond (bad_record_size buffer) buffer (record_bytes outcome.page);
    }

unfoldable pub open_left : List ℕ → List ℕ → Left
open_left image buffer = opened_left image buffer (opening image) (opening_image image)

unfoldable pub open_stopped_left : List ℕ → List ℕ → ℕ → Left
open_stopped_left image buffer n = opened_left image buffer (opening_stopped image n) (opening_stopped_image image n)

unfoldable pub initialise_left : List ℕ → List ℕ → ℕ → ℕ → Left
initialise_left image buffer sequence n =
    left (bad_record_size buffer) image buffer
    (initialise image (record_of buffer) sequence n) (initialise_image image (record_of buffer) sequence n)

unfoldable pub mark_full_left : List ℕ → List ℕ → Left
mark_full_left image buffer =
    left (bad_record_size buffer) image buffer (mark_full image (record_of buffer)) (mark_full_image image (record_of buffer))

-- a key beside the record
abbrev pub bad_key : List ℕ → List ℕ → Bool
bad_key buffer key = bad_record_size buffer || wrong_size key_size key

unfoldable pub single_left : List ℕ → List ℕ → Single → ℕ → Left
single_left image buffer item n =
    left (bad_key buffer item.key || wrong_size single_size item.bytes) image buffer
    (append_single image (record_of buffer) item n) (append_single_image image (record_of buffer) item n)

unfoldable pub namespace_left : List ℕ → List ℕ → List ℕ → ℕ → ℕ → Left
namespace_left image buffer key value n =
    left (bad_key buffer key) image buffer
    (append_single image (record_of buffer) (namespace_item key value) n) (append_single_image image (record_of buffer) (namespace_item key value) n)

unfoldable pub variable_left : List ℕ → List ℕ → Variable → List ℕ → ℕ → Left
variable_left image buffer item payload n =
    left (bad_key buffer item.key) image buffer
    (append_variable image (record_of buffer) item payload n) (append_variable_image image (record_of buffer) item payload n)

unfoldable pub copy_left : List ℕ → List ℕ → List ℕ → ℕ → ℕ → Left
copy_left image buffer source i n =
    left (bad_record_size buffer) image buffer
    (copy_in image (record_of buffer) source i n) (copy_in_image image (record_of buffer) source i n)

unfoldable pub erase_left : List ℕ → List ℕ → ℕ → ℕ → Left
erase_left image buffer i span =
    left (bad_record_size buffer) image buffer (erase image (record_of buffer) i span) (erase_image image (record_of buffer) i span)

unfoldable pub purge_namespace_left : List ℕ → List ℕ → ℕ → Left
purge_namespace_left image buffer namespace =
    left (bad_record_size buffer) image buffer
    (purge_namespace image (record_of buffer) namespace) (purge_namespace_image image (record_of buffer) namespace)

-- ---- requests

abbrev pub single_of : ℕ → ℕ → ℕ → ℕ → List ℕ → List ℕ → Single
single_of namespace kind span chunk key bytes =
    record { namespace = namespace; kind = kind; span = span; chunk = chunk; key = key; bytes = bytes }

abbrev pub variable_of : ℕ → ℕ → ℕ → List ℕ → Variable
variable_of namespace kind chunk key = record { namespace = namespace; kind = kind; chunk = chunk; key = key }
