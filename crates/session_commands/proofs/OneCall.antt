-- What is answered to an input is one.
use Rattle.std.proofs.Common.{◌≡◌, ℕ, List, sym, ap, ◌∙◌, subst, codes, arith}
use Rattle.std.specs.Prelude.{⊤}
use Rattle.tl_numbers.specs.Bytes.{AreBytes}
use Rattle.tl_base.specs.Contents.{Files}
use Rattle.tl_base.specs.Packets.{packet}
use Rattle.tl_schema.specs.Types.{call}
use Rattle.tl_types.specs.Values.{ValueView}
use Rattle.tl_types.specs.Spelling.{Spells}
use Rattle.tl_encode.proofs.OneSpelling.{one_spelling}
use Rattle.box_events.specs.declared.requests.Numbered.{Numbered}
use Rattle.wire_profile.specs.declared.wire_fault.WireFault.{WireFault}
use Rattle.wire_profile.specs.Indexes.{ProfileView}
use Rattle.wire_profile.specs.Profiles.{IsProfile}
use Rattle.wire_values.specs.Calls.{call_in, call_tree}
use Rattle.box_wire.specs.Kinds.{calls}
use Rattle.box_wire.specs.Framing.{WireRefused}
use Rattle.box_wire.proofs.Exactly as exactly
use Rattle.box_wire.proofs.CallLaws.{call_laws}
use Rattle.update_sessions.specs.Packed.{MeansCall}
use Rattle.outside.specs.Answer.{Answer, refused}
use Rattle.outside.proofs.SameFiles.{same_file}
use Rattle.schema_files.specs.Causes.{JsonCause}
use Rattle.schema_files.specs.Lines.{json_line}
use Rattle.fault_lines.specs.Messages.{wire_line}
use Rattle.session_commands.specs.Post.{OfSent, answer_of, OfCall, no_call, long_call, sent, OfJson, no_json, json_of, OfInput}
use Rattle.session_commands.proofs.OneJson.{one_json, never_json, one_json_cause}
use Rattle.session_commands.proofs.OneReply.{one_link}

module _ (p : ProfileView) (good : IsProfile p) where
  module _ (b : List ℕ) (are : AreBytes b) where
    pub one_call : (c d : Numbered) → MeansCall p c b → MeansCall p d b → c ≡ d
    one_call c d m k = exactly.one_message p good calls tt b are call_tree call_in (λ _. ⊤) call_laws c d tt tt m k

    pub never_call : (c : Numbered) (e : WireFault) → MeansCall p c b → WireRefused p calls b e → ⊥
    never_call c e m r = exactly.never_both p good calls tt b are (call_tree c) m e r

    one_refusal : (d e : WireFault) → WireRefused p calls b d → WireRefused p calls b e → d ≡ e
    one_refusal d e r s = exactly.one_fault p good calls tt b are d e r s

    module _ (address given : List ℕ) (bytes : AreBytes given) where
      one_sent : (n : ℕ) (a c : Answer) → OfSent p n address b given a → OfSent p n address b given c → a ≡ c
      one_sent n a c (o, h, is) (q, k, at) = is ∙ ap (answer_of address (packet b)) (one_link p good n given bytes o q h k) ∙ sym at

      one_of_call : (a c : Answer) → OfCall p address b given a → OfCall p address b given c → a ≡ c
      one_of_call a c (no_call d r is) (no_call e s at) = is ∙ ap (λ (x : WireFault). refused (wire_line (codes "input") x)) (one_refusal d e r s) ∙ sym at
      one_of_call a c (no_call d r is) (long_call x m long at) = absurd (never_call x d m r)
      one_of_call a c (no_call d r is) (sent x m few h) = absurd (never_call x d m r)
      one_of_call a c (long_call x m long is) (no_call e s at) = absurd (never_call x e m s)
      one_of_call a c (long_call x m long is) (long_call y k more at) = is ∙ sym at
      one_of_call a c (long_call x m long is) (sent y k few h) = absurd (omega (arith, long, few))
      one_of_call a c (sent x m few h) (no_call e s at) = absurd (never_call x e m s)
      one_of_call a c (sent x m few h) (long_call y k long at) = absurd (omega (arith, long, few))
      one_of_call a c (sent x m few h) (sent y k less g) = one_sent x.number a c h (subst (λ (z : Numbered). OfSent p z.number address b given c) (one_call y x k m) g)

  same_spelling : (x y : ValueView) (b d : List ℕ) → x ≡ y → Spells p.schema call x b → Spells p.schema call y d → b ≡ d
  same_spelling x y b d same s r = one_spelling p.schema x call b d s (subst (λ (z : ValueView). Spells p.schema call z d) (sym same) r)

  module _ (address bytes given : List ℕ) (are : AreBytes given) where
    one_of_json : (a c : Answer) → OfJson p address bytes given a → OfJson p address bytes given c → a ≡ c
    one_of_json a c (no_json d r is) (no_json e s at) = is ∙ ap (λ (k : JsonCause). refused (json_line k)) (one_json_cause p.schema call bytes d e r s) ∙ sym at
    one_of_json a c (no_json d r is) (json_of y e j s all k) = absurd (never_json p.schema call bytes y d j r)
    one_of_json a c (json_of x b i s all h) (no_json e r at) = absurd (never_json p.schema call bytes x e i r)
    one_of_json a c (json_of x b i s all h) (json_of y d j r too k) =
        let same = same_spelling x y b d (one_json p.schema call bytes x y i j) s r in
        one_of_call b all address given are a c h (subst (λ (z : List ℕ). OfCall p address z given c) (sym same) k)

  pub one_input : (address input : List ℕ) (files : Files) (given : List ℕ) → AreBytes given → (a c : Answer) → OfInput address input files given p a → OfInput address input files given p c → a ≡ c
  one_input address input files given are a c (bytes, has, h) (more, also, k) =
      one_of_json address bytes given are a c h (subst (λ (z : List ℕ). OfJson p address z given c) (same_file files input more bytes also has) k)
