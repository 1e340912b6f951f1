-- The call that a value is.
use Rattle.std.proofs.Common.{◌≡◌, ℕ, ◌<◌, ◌≤◌, ◌%◌, List, [], ◌++◌, length, Result, Ok, Err, Vec, Global, codes, sym, ap, ◌∙◌, subst, arith, inl, inr}
use Rattle.std.specs.Prelude.{⊤, IfOk, IsErrAnd}
use Rattle.std.specs.declared.alloc.AllocError.{AllocError}
use Rattle.tl_numbers.specs.Bytes.{AreBytes}
use Rattle.tl_schema.specs.Types.{Shape, call}
use Rattle.tl_schema.specs.Schemas.{Declared}
use Rattle.tl_types.specs.Values.{ValueView}
use Rattle.tl_types.specs.Spelling.{Spells}
use Rattle.box_events.specs.declared.limits.TheConstants.{MAX_FRAME_BYTES}
use Rattle.box_events.specs.declared.requests.Numbered.{Numbered}
use Rattle.wire_forms.specs.declared.form.Cell.TheVariants.{Query}
use Rattle.wire_profile.specs.declared.wire_fault.WireFault.{WireFault}
use Rattle.wire_profile.specs.Indexes.{ProfileView}
use Rattle.wire_profile.specs.Profiles.{IsProfile}
use Rattle.wire_profile.specs.SpelledForms.{owned}
use Rattle.wire_values.specs.Calls.{call_in, call_tree}
use Rattle.box_wire.specs.Kinds.{calls}
use Rattle.box_wire.specs.Framing.{WireRefused}
use Rattle.box_wire.proofs.CallLaws.{call_laws}
use Rattle.box_world.proofs.Lengths.{has_size}
use Rattle.box_world.proofs.Multiples.{is_whole, whole}
use Rattle.box_world.proofs.SpelledMessages.{read_of}
use Rattle.update_sessions.specs.Packed.{MeansCall}
use Rattle.outside.specs.Jobs.{RefusedBy}
use Rattle.outside.specs.Loading.{Refuses, RefusesAs}
use Rattle.outside.specs.declared.stop.LoadError.{LoadError}
use Rattle.outside.proofs.Loaded.{memory_refuses, refuses_as}
use Rattle.fault_lines.specs.Messages.{wire_line}
use Rattle.session_commands.specs.Lines.{long_call_line}
use Rattle.session_commands.specs.declared.sending.Sending.{Sending}
use Rattle.session_commands.specs.inner.Posting.{TellsNoCall, TellsUnsent, NumbersCall, MaySendCall, Sends}

-- a cause has its line
pub no_call_told : (p : ProfileView) (b : List ℕ) (fault : WireFault) (line : Result (Vec ℕ Global) AllocError) (u : LoadError) → WireRefused p calls b fault → IfOk line (λ l. l.items ≡ wire_line (codes "input") fault)
    → RefusedBy line u → Refuses (TellsNoCall p b) u
no_call_told p b fault (Ok line) u refused tells is = subst (Refuses (TellsNoCall p b)) (sym is) (fault, refused, tells)
no_call_told p b fault (Err e) u refused tells is = memory_refuses (TellsNoCall p b) u is

-- ---- the spelling

pub bytes_are : (S U : Declared) (T : Shape) (v : ValueView) (old new b : List ℕ) → old ≡ [] → U ≡ S → T ≡ call → ((x : List ℕ) → Spells U T v x → new ≡ old ++ x) → Spells S call v b → new ≡ b
bytes_are S U T v old new b none same is puts s =
    puts b (subst (λ (X : Declared). Spells X T v b) (sym same) (subst (λ (X : Shape). Spells S X v b) (sym is) s)) ∙ ap (λ (x : List ℕ). x ++ b) none

-- a call's length is a multiple of 4
whole_call : (p : ProfileView) → IsProfile p → (c : Numbered) (b : List ℕ) → MeansCall p c b → length b % 4 ≡ 0
whole_call p good c b means =
    let r = read_of calls call_tree call_in (λ _. ⊤) call_laws p good c b tt means in
    let q = is_whole (owned p means.v) Query r.kind_is in
    whole (length b) (q.0, has_size p good means.v Query b call_laws.alone means.spelled.0 r.kind_is ∙ q.1)

-- ---- answers

pub no_call_sends : (p : ProfileView) (b bytes : List ℕ) (e : LoadError) (r : Result Sending LoadError) → bytes ≡ b → AreBytes bytes → Refuses (TellsNoCall p bytes) e → IsErrAnd r (λ z. z ≡ e) → Sends p b r
no_call_sends p b bytes e (Ok s) same are told is = absurd is
no_call_sends p b bytes e (Err z) same are told is =
    let here : Refuses (TellsUnsent p b) e = subst (λ (x : List ℕ). Refuses (TellsUnsent p x) e) same (refuses_as (TellsNoCall p bytes) (TellsUnsent p bytes) e (λ line h. (are, inl h)) told) in
    subst (Refuses (TellsUnsent p b)) (sym is) here

pub long_sends : (p : ProfileView) (b bytes : List ℕ) (n : ℕ) (e : LoadError) → bytes ≡ b → AreBytes bytes → NumbersCall p bytes (Ok n) → MAX_FRAME_BYTES < length bytes → RefusesAs (long_call_line (length bytes)) e → Sends p b (Err e)
long_sends p b bytes n e same are (c, means, is) long told =
    subst (λ (x : List ℕ). Refuses (TellsUnsent p x) e) same (refuses_as (λ line. line ≡ long_call_line (length bytes)) (TellsUnsent p bytes) e (λ line tells. (are, inr (c, means, long, tells))) told)

pub call_sends : (p : ProfileView) → IsProfile p → (b : List ℕ) (s : Sending) → s.bytes ≡ b → AreBytes s.bytes → NumbersCall p s.bytes (Ok s.number) → length s.bytes ≤ MAX_FRAME_BYTES → Sends p b (Ok s)
call_sends p good b s same are (c, means, is) few =
    (same, subst (λ (x : List ℕ). MaySendCall p x s.number) same (record { call = c; are = are; means = means; number = is; fits = (whole_call p good c s.bytes means, omega (arith, few)) }))
