-- What is told of bytes that are no value, and of calls that aren't sent.
use Rattle.std.proofs.Common.{◌≡◌, ℕ, ◌+◌, ◌<◌, ◌≤◌, ◌^◌, List, [], ◌++◌, length, length-append, codes, Some, Err, refl, ap, ◌∙◌, arith}
use Rattle.std.proofs.lemmas.List.{nil_from_length}
use Rattle.tl_numbers.specs.Numbers.{word}
use Rattle.tl_base.specs.Packets.{IsPacketLength}
use Rattle.tl_schema.specs.Types.{Shape}
use Rattle.tl_schema.specs.Types as type
use Rattle.tl_schema.specs.Schemas.{Declared}
use Rattle.tl_types.specs.Offsets.{moved}
use Rattle.tl_types.specs.Values.{ValueView}
use Rattle.tl_types.specs.declared.value.TheConstants.{MAX_LEVELS}
use Rattle.tl_calls.specs.Calling.{CallsView, StandsFor, Sends, open_at}
use Rattle.tl_calls.specs.Events.{Log, open_in}
use Rattle.tl_calls.specs.Results.{result_type}
use Rattle.tl_base.specs.declared.fault.Fault.{Fault}
use Rattle.tl_base.specs.declared.fault.Fault.TheVariants as fault
use Rattle.tl_decode.specs.Wholes.{ReadsBytes}
use Rattle.tl_decode.specs.declared.whole.WholeCause.{WholeCause}
use Rattle.tl_decode.specs.declared.whole.WholeCause.TheVariants as whole
use Rattle.tl_calls.specs.declared.fault.SendFault.{SendFault}
use Rattle.tl_calls.specs.declared.fault.SendFault.TheVariants as send
use Rattle.tl_calls.proofs.Stands.{found_open}
use Rattle.outside.specs.Loading.{Refuses, RefusesAs}
use Rattle.outside.specs.declared.stop.LoadError.{LoadError}
use Rattle.outside.proofs.Loaded.{refuses_as, memory_refuses}
use Rattle.schema_files.specs.Lines.{cause_text, input_line}
use Rattle.call_commands.specs.CallReports.{IsWhole, NoWhole, refused, trailing, ContentRefused, no_number, no_call, no_answer, full, no_result, result_cause_name}
use Rattle.call_commands.specs.Answering.{SaysRefused}
use Rattle.call_commands.specs.inner.Tellings.{TellsUnread, TellsUnsent, offset_in}
use Rattle.call_commands.proofs.Offsets.{refused_within}

-- ---- offsets

-- an offset within bytes that are not too many
as_moved : (p n : ℕ) → p ≤ n → n < 2 ^ 64 → moved 0 p ≡ p
as_moved p n inside few = omega (arith, inside, few)

no_more : (p place n : ℕ) → place ≡ moved 0 p → p ≤ n → place ≤ n
no_more p place n is inside = omega (arith, is, inside)

part_within : (b x rest : List ℕ) → b ≡ x ++ rest → length x ≤ length b
part_within b x rest split = omega (arith, ap length split, length-append x rest)

pub offset_within : (schema : Declared) (T : Shape) (b : List ℕ) (fault : Fault WholeCause) → ReadsBytes schema T b (Err fault) → offset_in fault ≤ length b
offset_within schema T b (fault.Refused (whole.Refused place cause)) (p, r, is) = no_more p place (length b) is (refused_within schema MAX_LEVELS T b p cause r)
offset_within schema T b (fault.Refused (whole.Trailing place)) (v, x, rest, split, some, spells, deep, is) = no_more (length x) place (length b) is (part_within b x rest split)
offset_within schema T b fault.Memory u = omega arith

-- what is told of bytes after the first word of a packet has a place in the file
pub place_fits : (schema : Declared) (T : Shape) (at : ℕ) (b : List ℕ) (fault : Fault WholeCause) → at + (8 + length b) < 2 ^ 64 → ReadsBytes schema T b (Err fault) → at + (8 + offset_in fault) < 2 ^ 64
place_fits schema T at b fault few read = omega (arith, few, offset_within schema T b fault read)

-- ---- bytes that are no value

module _ (schema : Declared) (T : Shape) (at : ℕ) (b : List ℕ) (few : at + (8 + length b) < 2 ^ 64) where
  -- bytes of the packet at this offset that are no value
  abbrev pub NoWholeAt : ℕ → List ℕ → Type 0
  NoWholeAt place why = (p : ℕ) × NoWhole schema T b p why × (place ≡ at + (8 + p))

  placed : (p place : ℕ) → p ≤ length b → place ≡ moved 0 p → at + (8 + place) ≡ at + (8 + p)
  placed p place inside is = ap (λ (n : ℕ). at + (8 + n)) (is ∙ as_moved p (length b) inside (omega (arith, few)))

  pub unread_says : (fault : Fault WholeCause) (u : LoadError) → ReadsBytes schema T b (Err fault) → TellsUnread at fault u → Refuses (SaysRefused NoWholeAt) u
  unread_says (fault.Refused (whole.Refused place cause)) u (p, r, is) tells =
      refuses_as (λ told. told ≡ input_line (at + (8 + place)) (cause_text cause)) (SaysRefused NoWholeAt) u
      (λ line says. (at + (8 + place), cause_text cause, (p, refused cause r refl, placed p place (refused_within schema MAX_LEVELS T b p cause r) is), says)) tells
  unread_says (fault.Refused (whole.Trailing place)) u (v, x, rest, split, some, spells, deep, is) tells =
      refuses_as (λ told. told ≡ input_line (at + (8 + place)) (codes "Trailing")) (SaysRefused NoWholeAt) u
      (λ line says. (at + (8 + place), codes "Trailing", (length x, trailing v x rest split some (spells, deep) refl refl, placed (length x) place (part_within b x rest split) is), says)) tells
  unread_says fault.Memory u read tells = memory_refuses (SaysRefused NoWholeAt) u tells

-- ---- packets

-- what is told where a packet of this content is refused after the events that calls stand for
abbrev pub SaysContent : Declared → CallsView → ℕ → List ℕ → List ℕ → Type 0
SaysContent schema old at content line = (past : Log) → StandsFor schema old past → SaysRefused (ContentRefused schema past at content) line

module _ (schema : Declared) (old : CallsView) (at : ℕ) (b : List ℕ) where
  pub call_unread : at + (8 + length b) < 2 ^ 64 → (fault : Fault WholeCause) (u : LoadError) → ReadsBytes schema type.call b (Err fault) → TellsUnread at fault u → Refuses (SaysContent schema old at (word 0 ++ b)) u
  call_unread few fault u read tells =
      refuses_as (SaysRefused (NoWholeAt schema type.call at b few)) (SaysContent schema old at (word 0 ++ b)) u
      (λ line (place, why, (p, none, is), says) past stands. (place, why, no_call b p refl none is, says)) (unread_says schema type.call at b few fault u read tells)

  pub answer_unread : at + (8 + length b) < 2 ^ 64 → (n : ℕ) (call : ValueView) → n < 2 ^ 32 → open_at old n ≡ Some call → (fault : Fault WholeCause) (u : LoadError) → ReadsBytes schema (result_type schema.decls call) b (Err fault) → TellsUnread at fault u
      → Refuses (SaysContent schema old at (word n ++ b)) u
  answer_unread few n call fits found fault u read tells =
      refuses_as (SaysRefused (NoWholeAt schema (result_type schema.decls call) at b few)) (SaysContent schema old at (word n ++ b)) u
      (λ line (place, why, (p, none, is), says) past stands. (place, why, no_answer n b call p fits refl (found_open schema old past n call stands found) none is, says))
      (unread_says schema (result_type schema.decls call) at b few fault u read tells)

  -- as many calls are open as stand for the events
  count : (past : Log) → StandsFor schema old past → length old.calls ≡ length (open_in past)
  count past stands = ap length stands.calls

  pub call_unsent : (v : ValueView) → IsWhole schema type.call b v → (fault : SendFault) (new : CallsView) (u : LoadError) → Sends schema old new v (Err fault) → TellsUnsent at fault u → Refuses (SaysContent schema old at (word 0 ++ b)) u
  call_unsent v whole send.Full new u (many, same) tells =
      refuses_as (λ told. told ≡ input_line at (codes "Full")) (SaysContent schema old at (word 0 ++ b)) u
      (λ line says past stands. (at, codes "Full", full v b refl whole (omega (arith, many, count past stands)) refl refl, says)) tells
  call_unsent v whole (send.Result cause) new u (few, has, same) tells =
      refuses_as (λ told. told ≡ input_line at (result_cause_name cause)) (SaysContent schema old at (word 0 ++ b)) u
      (λ line says past stands. (at, result_cause_name cause, no_result v b cause refl whole (omega (arith, few, count past stands)) has refl refl, says)) tells
  call_unsent v whole send.Memory new u same tells = memory_refuses (SaysContent schema old at (word 0 ++ b)) u tells

-- a packet without a word has no content
no_content : (content : List ℕ) → IsPacketLength (length content) → length content < 4 → content ≡ []
no_content content fits few = nil_from_length content (omega (arith, fits.0, few))

pub unnumbered : (schema : Declared) (old : CallsView) (at : ℕ) (content : List ℕ) (u : LoadError) → IsPacketLength (length content) → length content < 4 → RefusesAs (input_line at (codes "NoNumber")) u → Refuses (SaysContent schema old at content) u
unnumbered schema old at content u fits few tells =
    refuses_as (λ told. told ≡ input_line at (codes "NoNumber")) (SaysContent schema old at content) u (λ line says past stands. (at, codes "NoNumber", no_number (no_content content fits few) refl refl, says)) tells
