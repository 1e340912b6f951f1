-- Each `post` whose files are there has an answer.
use Rattle.std.proofs.Common.{◌≡◌, ◌⊎◌, ℕ, ◌%◌, ◌^◌, ◌<◌, ◌≤◌, List, [], ◌∷◌, ◌++◌, append-nil, append_assoc, length, take, drop, take-append-drop, Option, Some, None, Ok, Err, Bool, true, false, true≢false, refl, sym, ap, ◌∙◌, subst, inl, inr, arith}
use Rattle.std.proofs.lemmas.Bool.{cases_lt}
use Rattle.std.proofs.lemmas.List.{length-take-le}
use Rattle.std.proofs.lemmas.Str.{IsUtf8-from_is_utf8, is_utf8-from_IsUtf8}
use Rattle.std.specs.Prelude.{IsUtf8, ⊤}
use Rattle.std.specs.Str.{is_utf8}
use Rattle.serde_json.specs.Data.{Data}
use Rattle.serde_json.specs.Read.{read as read_text}
use Rattle.tl_numbers.specs.Bytes.{AreBytes}
use Rattle.tl_base.specs.Outside.{IsFile}
use Rattle.tl_base.specs.Contents.{Files, HoldBytes}
use Rattle.tl_numbers.specs.Numbers.{word}
use Rattle.tl_base.specs.Packets.{IsPacketLength, packet}
use Rattle.tl_base.specs.declared.packet.PacketCause.{PacketCause}
use Rattle.tl_base.specs.declared.packet.PacketCause.TheVariants as packets
use Rattle.tl_schema.specs.Types.{call}
use Rattle.tl_schema.specs.Formed.{IsFormed}
use Rattle.tl_types.specs.Values.{ValueView, depth}
use Rattle.tl_types.specs.Fitting as fitting
use Rattle.tl_types.specs.Offsets.{moved}
use Rattle.tl_types.specs.Spelling.{Spells}
use Rattle.tl_types.specs.declared.value.TheConstants.{MAX_LEVELS}
use Rattle.tl_types.proofs.Exactly.{exactly_one}
use Rattle.tl_types.proofs.FitsAreSpelled.{each_fits_exactly}
use Rattle.tl_types.proofs.Numbers.{BeginsWord, short, whole, begins_word}
use Rattle.tl_show.specs.Reading.{read, Read}
use Rattle.box_events.specs.declared.replies.Frame.{Frame}
use Rattle.box_events.specs.declared.replies.Frame.TheVariants.{Push, Reply}
use Rattle.wire_profile.specs.declared.wire_fault.WireFault.{WireFault}
use Rattle.wire_profile.specs.declared.wire_fault.WireFault.TheVariants as wire
use Rattle.wire_profile.specs.Indexes.{ProfileView, cell_shape}
use Rattle.wire_profile.specs.Profiles.{IsProfile}
use Rattle.wire_profile.specs.SpelledForms.{owned}
use Rattle.wire_profile.proofs.OwnValues.{own_of}
use Rattle.wire_values.specs.Calls.{call_in, call_tree}
use Rattle.wire_values.specs.CarriedFrames.{IsFrame}
use Rattle.wire_values.specs.Frames.{frame_in, frame_tree}
use Rattle.box_wire.specs.Kinds.{Kind, calls, frames}
use Rattle.box_wire.specs.Framing.{Means, SpellsWhole, WireRefused}
use Rattle.box_wire.specs.Framing as framing
use Rattle.box_wire.proofs.CallLaws.{call_laws}
use Rattle.box_wire.proofs.Exactly.{KindLaws}
use Rattle.box_wire.proofs.FrameLaws.{frame_formed, frame_laws}
use Rattle.update_sessions.specs.Heard.{NoFrame}
use Rattle.outside.specs.Answer.{Answer}
use Rattle.outside.proofs.SameFiles.{file_bytes}
use Rattle.schema_files.specs.Causes.{JsonCause, TooLong, NoJson, Unformed, Misfit}
use Rattle.schema_files.specs.JsonInput.{IsJson, JsonRefused}
use Rattle.schema_files.specs.declared.json_input.TheConstants.{JSON_BYTES}
use Rattle.fault_lines.proofs.Profiled.{each_profiled}
use Rattle.fault_lines.specs.Packets.{packet_line}
use Rattle.session_commands.specs.Post.{Outcome, IsReplyTo, OfBody, no_frame, another, reply, OfLink, no_packet, packet_of, IsWordLong, OfCall, no_call, long_call, sent, OfJson, no_json, json_of, OfInput, PostsAreAnswered}
use Rattle.session_commands.proofs.JsonBytes.{read_holds}
use Rattle.session_commands.proofs.ReadBytes.{read_value_holds}
use Rattle.session_commands.proofs.SpelledBytes.{spelled_are}
use Rattle.session_commands.proofs.OneReply.{body_bytes}

-- ---- packets

packet_length : (n : ℕ) → IsPacketLength n ⊎ ¬ IsPacketLength n
packet_length n =
    elim (cases_lt 1048576 n) [
      | inl long ↦ inr (λ fits. omega (arith, long, fits.1))
      | inr few ↦ elim (cases_lt 0 (n % 4)) [ inl odd ↦ inr (λ fits. omega (arith, odd, fits.0)) | inr even ↦ inl (omega (arith, even), omega (arith, few)) ]
    ]

-- a packet comes first
pub record BeginsPacket (bytes : List ℕ) : Type 0 where
  pub body : List ℕ
  pub rest : List ℕ
  pub fits : IsPacketLength (length body)
  pub parts : bytes ≡ packet body ++ rest

-- no packet comes, which has a line
pub record BeginsNone (bytes : List ℕ) : Type 0 where
  pub fault : PacketCause
  pub line : List ℕ
  pub none : NoFrame bytes fault
  pub few : IsWordLong fault
  pub tells : packet_line fault ≡ line

cut_short : (bytes : List ℕ) → length bytes < 4 → BeginsNone bytes
cut_short [] less = record { fault = packets.Ended 0; line = _; none = inl (refl, refl); few = tt; tells = refl }
cut_short (b ∷ bytes) less = record { fault = packets.Ended (length (b ∷ bytes)); line = _; none = inr (refl, omega arith, inl less); few = tt; tells = refl }

module _ (bytes : List ℕ) (n : ℕ) (rest : List ℕ) (few : n < 2 ^ 32) (is : bytes ≡ word n ++ rest) where
  whole_packet : IsPacketLength n → n ≤ length rest → BeginsPacket bytes
  whole_packet fits enough =
      let body : List ℕ = take n rest in
      let long : length body ≡ n = length-take-le n rest enough in
      let split : bytes ≡ word n ++ (body ++ drop n rest) = is ∙ ap (λ (x : List ℕ). word n ++ x) (sym (take-append-drop n rest)) in
      record {
        body = body;
        rest = drop n rest;
        fits = subst IsPacketLength (sym long) fits;
        parts = split ∙ sym (append_assoc (word n) body (drop n rest)) ∙ ap (λ (k : ℕ). (word k ++ body) ++ drop n rest) (sym long);
      }

  begun : 4 ≤ length bytes
  begun = omega (arith, ap length is)

  begins_either : BeginsPacket bytes ⊎ BeginsNone bytes
  begins_either =
      elim (packet_length n) [
        | inl fits ↦ elim (cases_lt (length rest) n) [
          | inl less ↦ inr (record { fault = packets.Ended (length bytes); line = _; none = inr (refl, omega (arith, begun), inr (n, rest, fits, is, less)); few = tt; tells = refl })
          | inr enough ↦ inl (whole_packet fits (omega (arith, enough)))
        ]
        | inr bad ↦ inr (record { fault = packets.BadLength n; line = _; none = inr (rest, is, bad); few = few; tells = refl })
      ]

pub begins_so : (bytes : List ℕ) → BeginsWord bytes → BeginsPacket bytes ⊎ BeginsNone bytes
begins_so bytes (short less) = inr (cut_short bytes less)
begins_so bytes (whole n rest few is are) = begins_either bytes n rest few is

-- ---- messages

module _ (p : ProfileView) (good : IsProfile p) where
  module _ {M : Type 0} (kind : Kind) (formed : IsFormed p.schema (cell_shape p kind.cell)) (tree : M → ValueView) (inside : ValueView → M) (Is : M → Type 0) (laws : KindLaws kind tree inside Is) (bytes : List ℕ) where
    abbrev pub IsMeant : Type 0
    IsMeant = (m : M) × Is m × Means p kind (tree m) bytes

    abbrev pub IsRefused : Type 0
    IsRefused = (fault : WireFault) × WireRefused p kind bytes fault

    by_cause : (v : ValueView) → SpellsWhole p kind v bytes → (o : Option WireFault) → kind.cause (owned p v) ≡ o → IsMeant ⊎ IsRefused
    by_cause v spells (Some fault) cause = inr (fault, framing.no_message v spells cause)
    by_cause v spells None clear =
        let own = own_of p good v kind.cell bytes laws.alone spells.0 (laws.served (owned p v) clear) in
        inl (inside (owned p v), laws.read (owned p v) own clear, record { v = v; spelled = spells; clear = clear; same = sym (laws.same (owned p v) own clear) })

    by_rest : (v : ValueView) (x rest : List ℕ) → bytes ≡ x ++ rest → Spells p.schema (cell_shape p kind.cell) v x → depth v ≤ MAX_LEVELS → IsMeant ⊎ IsRefused
    by_rest v x [] split spells deep = by_cause v (subst (Spells p.schema (cell_shape p kind.cell) v) (sym (split ∙ append-nil x)) spells, deep) _ refl
    by_rest v x (b ∷ rest) split spells deep = inr (wire.Trailing (moved 0 (length x)), framing.goes_on v x (b ∷ rest) (spells, deep) split (omega arith) refl)

    pub each_message : AreBytes bytes → IsMeant ⊎ IsRefused
    each_message are = elim (exactly_one p.schema good.schema MAX_LEVELS (cell_shape p kind.cell) bytes formed are).either [
      | inl (v, x, (rest, split, spells, deep)) ↦ by_rest v x rest split spells deep
      | inr (offset, cause, r) ↦ inr (wire.Refused (moved 0 offset) cause, framing.no_value offset cause r refl)
    ]

  -- ---- what comes back

  -- a frame is the reply to this call, or isn't
  reply_or_other : (n : ℕ) (f : Frame) → IsReplyTo n f ⊎ (IsReplyTo n f → ⊥)
  reply_or_other n (Push q) = inr (λ none. none)
  reply_or_other n (Reply m r) = elim (cases_lt m n) [
    | inl less ↦ inr (λ same. omega (arith, less, same))
    | inr enough ↦ elim (cases_lt n m) [ inl more ↦ inr (λ same. omega (arith, more, same)) | inr few ↦ inl (omega (arith, enough, few)) ]
  ]

  module _ (n : ℕ) where
    pub each_body : (body : List ℕ) → AreBytes body → (o : Outcome) × OfBody p n body o
    each_body body are = elim (each_message frames (frame_formed p good) frame_tree frame_in IsFrame frame_laws body are) [
      | inl (f, is, means) ↦ elim (reply_or_other n f) [
        | inl here ↦ (_, reply f means.v (is, means) here means.spelled refl)
        | inr other ↦ (_, another f (is, means) other refl)
      ]
      | inr (fault, r) ↦ (_, no_frame fault r refl)
    ]

    of_packet : (bytes : List ℕ) → AreBytes bytes → BeginsPacket bytes ⊎ BeginsNone bytes → (o : Outcome) × OfLink p n bytes o
    of_packet bytes are (inl first) =
        let told = each_body first.body (body_bytes bytes first.body first.rest first.parts are) in
        (told.0, packet_of first.body first.rest first.fits first.parts told.1)
    of_packet bytes are (inr cause) = (_, no_packet cause.fault cause.line cause.none cause.few cause.tells refl)

    each_link : (bytes : List ℕ) → AreBytes bytes → (o : Outcome) × OfLink p n bytes o
    each_link bytes are = of_packet bytes are (begins_so bytes (begins_word bytes are))

  -- ---- the call

  module _ (address given : List ℕ) (bytes : AreBytes given) where
    each_call : (b : List ℕ) → AreBytes b → (a : Answer) × OfCall p address b given a
    each_call b are = elim (each_message calls tt call_tree call_in (λ _. ⊤) call_laws b are) [
      | inl (c, is, means) ↦ elim (cases_lt 1048576 (length b)) [
        | inl more ↦ (_, long_call c means more refl)
        | inr few ↦ (let told = each_link c.number given bytes in (_, sent c means (omega (arith, few)) (told.0, told.1, refl)))
      ]
      | inr (fault, r) ↦ (_, no_call fault r refl)
    ]

    module _ (input : List ℕ) (are : AreBytes input) where
      of_none : (cause : JsonCause) → JsonRefused p.schema call input cause → (a : Answer) × OfJson p address input given a
      of_none cause r = (_, no_json cause r refl)

      of_fit : (d : Data) (v : ValueView) → IsJson input d → read p.schema.decls call d ≡ Ok v → (m : Option fitting.MisfitView) → fitting.misfit p.schema.decls MAX_LEVELS None call v ≡ m → (a : Answer) × OfJson p address input given a
      of_fit d v json reads None fits =
          let s = (each_fits_exactly p.schema good.schema MAX_LEVELS call v tt).spelled fits in
          let all = spelled_are p.schema v call s.0 s.1 (read_value_holds p.schema.decls call d v (read_holds input d are json.2) reads) in
          let told = each_call s.0 all in
          (told.0, json_of v s.0 (d, json, reads, fits) s.1 all told.1)
      of_fit d v json reads (Some (path, cause)) has = of_none (Misfit path cause) (d, v, json, reads, has)

      of_read : (d : Data) → IsJson input d → (r : Read ValueView) → read p.schema.decls call d ≡ r → (a : Answer) × OfJson p address input given a
      of_read d json (Ok v) reads = of_fit d v json reads _ refl
      of_read d json (Err (path, cause)) reads = of_none (Unformed path cause) (d, json, reads)

      of_text : length input ≤ JSON_BYTES → IsUtf8 input → (o : Option Data) → read_text input ≡ o → (a : Answer) × OfJson p address input given a
      of_text few utf8 None is = of_none NoJson (few, λ _. is)
      of_text few utf8 (Some d) is = of_read d (few, utf8, is) _ refl

      of_few : length input ≤ JSON_BYTES → (u : Bool) → is_utf8 input ≡ u → (a : Answer) × OfJson p address input given a
      of_few few true is = of_text few (IsUtf8-from_is_utf8 input is) _ refl
      of_few few false is = of_none NoJson (few, λ utf8. absurd (true≢false (sym (is_utf8-from_IsUtf8 input utf8) ∙ is)))

      pub each_json : (a : Answer) × OfJson p address input given a
      each_json = elim (cases_lt JSON_BYTES (length input)) [ inl more ↦ of_none TooLong more | inr few ↦ of_few (omega (arith, few)) _ refl ]

    each_input : (files : Files) → HoldBytes files → (input : List ℕ) → IsFile files input → (a : Answer) × OfInput address input files given p a
    each_input files hold input (text, has) =
        let told = each_json text (file_bytes files input text hold has) in
        (told.0, (text, has, told.1))

pub each_post : PostsAreAnswered
each_post files hold given bytes schema address input text there =
    each_profiled (OfInput address input files given) (λ p is. each_input p is address given bytes files hold input there) files schema text
