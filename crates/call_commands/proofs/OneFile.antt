-- What is told of a file is one: its packets are told in one way, to its end or to one that is refused.
use Rattle.std.proofs.Common.{◌≡◌, inl, inr, ℕ, ◌+◌, ◌<◌, ◌≤◌, List, [], ◌∷◌, ◌++◌, append_assoc, length, length-append, refl, sym, ap, ap₂, ◌∙◌, subst, arith, codes, decimal}
use Rattle.std.proofs.lemmas.Bool.{cases_lt}
use Rattle.tl_numbers.specs.Bytes.{AreBytes}
use Rattle.tl_numbers.specs.Numbers.{word}
use Rattle.tl_base.specs.Packets.{packet, IsPacketLength}
use Rattle.tl_schema.specs.Schemas.{Declared}
use Rattle.tl_schema.specs.CheckedPrograms.{IsSchema}
use Rattle.tl_types.specs.Values.{ValueView}
use Rattle.tl_types.proofs.Numbers.{bytes_after, bytes_before}
use Rattle.std.proofs.lemmas.List.{take_at}
use Rattle.tl_calls.specs.Results.{HasResult}
use Rattle.tl_calls.specs.Events.{Logged, Log, IsOpen}
use Rattle.tl_calls.specs.Laws.{AreProper, IsProper, events_of}
use Rattle.tl_calls.proofs.OneLog.{call_proper}
use Rattle.outside.specs.Answer.{Answer, done, refused_after}
use Rattle.schema_files.specs.Lines.{input_line}
use Rattle.call_commands.specs.CallReports.{Began, none, one_more, HasPacket, Tells, call, answer, stale, ContentRefused, PacketRefused, bad_length, ended, too_long, content}
use Rattle.call_commands.specs.Calls.{OfPackets, told, no_packet}
use Rattle.call_commands.specs.declared.limits.TheConstants.{MAX_PACKET_END}
use Rattle.call_commands.proofs.Framed.{one_packet, never_bad, never_cut, never_both, one_length, some_bytes}
use Rattle.call_commands.proofs.OnePacket.{never_told, one_refusal, one_told}

-- ---- bytes

part_bytes : (b x y : List ℕ) → b ≡ x ++ y → AreBytes b → AreBytes x
part_bytes b x y e are =
    subst AreBytes (take_at x y (length x) refl) (bytes_before (length x) (x ++ y) (omega (arith, length-append x y)) (subst AreBytes e are))

pub content_bytes : (at : ℕ) (left held rest : List ℕ) → HasPacket at left held rest → AreBytes left → AreBytes held
content_bytes at left held rest here are = bytes_after (packet held) (word (length held)) held refl (part_bytes left (packet held) rest here.there are)

pub rest_bytes : (at : ℕ) (left held rest : List ℕ) → HasPacket at left held rest → AreBytes left → AreBytes rest
rest_bytes at left held rest here are = bytes_after left (packet held) rest here.there are

-- ---- another packet is told

pub record Goes (schema : Declared) (past : Log) (at : ℕ) (left : List ℕ) : Type 0 where
  pub held : List ℕ
  pub rest : List ℕ
  pub event : Logged
  pub line : List ℕ
  pub here : HasPacket at left held rest
  pub tells : Tells schema past held event line

-- ---- the file is told no further

-- how what is left is answered, where these lines stand: there is none, or it is refused
pub data Ends (schema : Declared) (past : Log) (at : ℕ) (left lines : List ℕ) (a : Answer) : Type 0 where
  at_end : left ≡ [] → a ≡ done lines → Ends schema past at left lines a
  at_packet : (place : ℕ) (why : List ℕ) → PacketRefused schema past at left place why → a ≡ refused_after lines (input_line place why) → Ends schema past at left lines a

-- where it is
record Answered (schema : Declared) (file : List ℕ) (a : Answer) : Type 0 where
  past : Log
  at : ℕ
  left : List ℕ
  lines : List ℕ
  began : Began schema file past at left lines
  ends : Ends schema past at left lines a

told_so : (schema : Declared) (file : List ℕ) (a : Answer) → OfPackets schema file a → Answered schema file a
told_so schema file a (told past at output began is) = record { past = past; at = at; left = []; lines = output; began = began; ends = at_end refl is }
told_so schema file a (no_packet past at left output place why began refused is) = record { past = past; at = at; left = left; lines = output; began = began; ends = at_packet place why refused is }

module _ (schema : Declared) (good : IsSchema schema) (file : List ℕ) (are : AreBytes file) where
  pub left_bytes : (past : Log) (at : ℕ) (left lines : List ℕ) → Began schema file past at left lines → AreBytes left
  left_bytes past at left lines none = are
  left_bytes past at left lines (one_more before p mid shown held rest e line began here tells) = rest_bytes p mid held rest here (left_bytes before p mid shown began)

  word_after : (held b : List ℕ) (n : ℕ) → held ≡ word n ++ b → AreBytes held → AreBytes b
  word_after held b n is bytes = bytes_after held (word n) b is bytes

  event_proper : (past : Log) (held : List ℕ) (e : Logged) (line : List ℕ) → AreBytes held → Tells schema past held e line → IsProper schema e.0
  event_proper past held e line bytes (call v b is whole few has e_is shown) = subst (λ (f : Logged). IsProper schema f.0) (sym e_is) has
  event_proper past held e line bytes (answer n b c v few is here spelled e_is shown) = subst (λ (f : Logged). IsProper schema f.0) (sym e_is) (word_after held b n is bytes)
  event_proper past held e line bytes (stale n b few some is unsent e_is shown) = subst (λ (f : Logged). IsProper schema f.0) (sym e_is) (word_after held b n is bytes)

  proper : (past : Log) (at : ℕ) (left lines : List ℕ) → Began schema file past at left lines → AreProper schema (events_of past)
  proper past at left lines none = tt
  proper past at left lines (one_more before p mid shown held rest e line began here tells) =
      (event_proper before held e line (content_bytes p mid held rest here (left_bytes before p mid shown began)) tells, proper before p mid shown began)

  -- each call that is open is answered in its result
  pub open_so : (past : Log) (at : ℕ) (left lines : List ℕ) → Began schema file past at left lines → (n : ℕ) (c : ValueView) → IsOpen past n c → HasResult schema c
  open_so past at left lines began n c here = call_proper schema past (proper past at left lines began) n c here.sent

  -- ---- packets told in one way

  abbrev Same : Log → Log → ℕ → ℕ → List ℕ → List ℕ → List ℕ → List ℕ → Type 0
  Same past log at q left rest lines more = (past ≡ log) × (at ≡ q) × (left ≡ rest) × (lines ≡ more)

  next_once : (past : Log) (at : ℕ) (left lines : List ℕ) → Began schema file past at left lines → (a b r s : List ℕ) (e f : Logged) (line more : List ℕ) → HasPacket at left a r → Tells schema past a e line → HasPacket at left b s → Tells schema past b f more
      → (a ≡ b) × (r ≡ s) × (e ≡ f) × (line ≡ more)
  next_once past at left lines began a b r s e f line more here tells there says =
      let same = one_packet left a b r s here.length_fits there.length_fits here.there there.there in
      let bytes = content_bytes at left a r here (left_bytes past at left lines began) in
      let one = one_told schema good past (open_so past at left lines began) a bytes e f line more tells (subst (λ (z : List ℕ). Tells schema past z f more) (sym same.0) says) in
      (same.0, same.1, one.0, one.1)

  runs_once : (past log : Log) (at q : ℕ) (left rest lines more : List ℕ) → Began schema file past at left lines → Began schema file log q rest more → length past ≡ length log → Same past log at q left rest lines more
  runs_once past log at q left rest lines more none none len = (refl, refl, refl, refl)
  runs_once past log at q left rest lines more none (one_more before p mid shown held behind e line began here tells) len = absurd (omega (arith, len))
  runs_once past log at q left rest lines more (one_more before p mid shown held behind e line began here tells) none len = absurd (omega (arith, len))
  runs_once past log at q left rest lines more (one_more us i l ls a r e line began here tells) (one_more bs j m ms b s f said start there says) len =
      let same = runs_once us bs i j l m ls ms began start (omega (arith, len)) in
      let here_too : HasPacket j m a r = subst (λ (k : ℕ). HasPacket k m a r) same.1 (subst (λ (z : List ℕ). HasPacket i z a r) same.2 here) in
      let tells_too : Tells schema bs a e line = subst (λ (z : Log). Tells schema z a e line) same.0 tells in
      let one = next_once bs j m ms start a b r s e f line said here_too tells_too there says in (
        ap₂ (λ (x : Logged) (xs : Log). x ∷ xs) one.2 same.0,
        ap₂ (λ (k : ℕ) (z : List ℕ). k + length (packet z)) same.1 one.0,
        one.1,
        ap₂ (λ (x y : List ℕ). x ++ y) same.3 one.3,
      )

  -- ---- a run that can't go on is the longest

  -- the state after the first k events of a run, which goes on
  record Front (k : ℕ) : Type 0 where
    past : Log
    at : ℕ
    left : List ℕ
    lines : List ℕ
    began : Began schema file past at left lines
    long : length past ≡ k
    goes : Goes schema past at left

  front_of : (past : Log) (at : ℕ) (left lines : List ℕ) → Began schema file past at left lines → (k : ℕ) → k < length past → Front k
  front_of past at left lines none k less = absurd (omega (arith, less))
  front_of past at left lines (one_more before p mid shown held rest e line began here tells) k less = elim (cases_lt k (length before)) [
    | inl more ↦ front_of before p mid shown began k more
    | inr last ↦ record {
      past = before;
      at = p;
      left = mid;
      lines = shown;
      began = began;
      long = omega (arith, less, last);
      goes = record { held = held; rest = rest; event = e; line = line; here = here; tells = tells };
    }
  ]

  no_longer : (past log : Log) (at q : ℕ) (left rest lines more : List ℕ) → Began schema file past at left lines → Began schema file log q rest more → (Goes schema past at left → ⊥) → length log ≤ length past
  no_longer past log at q left rest lines more began start stuck = elim (cases_lt (length past) (length log)) [
    | inl less ↦
        let f = front_of log q rest more start (length past) less in
        let same = runs_once f.past past f.at at f.left left f.lines lines f.began began f.long in
        absurd (stuck (subst (λ (z : List ℕ). Goes schema past at z) same.2 (subst (λ (k : ℕ). Goes schema past k f.left) same.1 (subst (λ (z : Log). Goes schema z f.at f.left) same.0 f.goes))))
    | inr all ↦ all
  ]

  -- ---- what is refused isn't told

  never_goes : (past : Log) (at : ℕ) (left lines : List ℕ) → Began schema file past at left lines → (place : ℕ) (why : List ℕ) → PacketRefused schema past at left place why → Goes schema past at left → ⊥
  never_goes past at left lines began place why (bad_length n rest few begins bad here text) g = never_bad left g.held g.rest rest n g.here.length_fits g.here.there few begins bad
  never_goes past at left lines began place why (ended some cut here text) g = never_cut left g.held g.rest g.here.length_fits g.here.there cut
  never_goes past at left lines began place why (too_long held rest fits is far here text) g =
      let same = one_packet left g.held held g.rest rest g.here.length_fits fits g.here.there is in
      let within : at + length (packet held) ≤ MAX_PACKET_END = subst (λ (z : List ℕ). at + length (packet z) ≤ MAX_PACKET_END) same.0 g.here.within in
      omega (arith, far, within)
  never_goes past at left lines began place why (content held rest here r) g =
      let same = one_packet left held g.held rest g.rest here.length_fits g.here.length_fits here.there g.here.there in
      let bytes = content_bytes at left held rest here (left_bytes past at left lines began) in
      never_told schema good past (open_so past at left lines began) held bytes at g.event g.line place why (subst (λ (z : List ℕ). Tells schema past z g.event g.line) (sym same.0) g.tells) r

  no_bytes : (at : ℕ) (left held rest : List ℕ) → left ≡ [] → left ≡ packet held ++ rest → ⊥
  no_bytes at left held rest empty is = some_bytes left (held ++ rest) (length held) (is ∙ append_assoc (word (length held)) held rest) empty

  never_empty : (past : Log) (at : ℕ) (left : List ℕ) (place : ℕ) (why : List ℕ) → left ≡ [] → PacketRefused schema past at left place why → ⊥
  never_empty past at left place why empty (bad_length n rest few begins bad here text) = some_bytes left rest n begins empty
  never_empty past at left place why empty (ended some cut here text) = omega (arith, some, ap length empty)
  never_empty past at left place why empty (too_long held rest fits is far here text) = no_bytes at left held rest empty is
  never_empty past at left place why empty (content held rest here r) = no_bytes at left held rest empty here.there

  stuck : (past : Log) (at : ℕ) (left lines : List ℕ) (a : Answer) → Began schema file past at left lines → Ends schema past at left lines a → Goes schema past at left → ⊥
  stuck past at left lines a began (at_end empty is) g = no_bytes at left g.held g.rest empty g.here.there
  stuck past at left lines a began (at_packet place why refused is) g = never_goes past at left lines began place why refused g

  -- ---- refused in one way

  abbrev Alike : ℕ → ℕ → List ℕ → List ℕ → Type 0
  Alike place other why more = (place ≡ other) × (why ≡ more)

  -- the same packet is too long, and is not
  never_far : (at : ℕ) (left a b r s : List ℕ) → IsPacketLength (length a) → left ≡ packet a ++ r → MAX_PACKET_END < at + length (packet a) → HasPacket at left b s → ⊥
  never_far at left a b r s fits is far here =
      let same = one_packet left b a s r here.length_fits fits here.there is in
      let within : at + length (packet a) ≤ MAX_PACKET_END = subst (λ (z : List ℕ). at + length (packet z) ≤ MAX_PACKET_END) same.0 here.within in
      omega (arith, far, within)

  one_fault : (past : Log) (at : ℕ) (left lines : List ℕ) → Began schema file past at left lines → (place other : ℕ) (why more : List ℕ) → PacketRefused schema past at left place why → PacketRefused schema past at left other more → Alike place other why more
  one_fault past at left lines began place other why more (bad_length m rest few begins bad here text) (bad_length n after also starts worse there said) =
      (here ∙ sym there, text ∙ ap (λ (k : ℕ). codes "BadLength " ++ decimal k) (one_length left rest after m n few also begins starts) ∙ sym said)
  one_fault past at left lines began place other why more (bad_length m rest few begins bad here text) (ended some cut there said) = absurd (never_both left rest m few begins bad cut)
  one_fault past at left lines began place other why more (bad_length m rest few begins bad here text) (too_long held r fits is far there said) = absurd (never_bad left held r rest m fits is few begins bad)
  one_fault past at left lines began place other why more (bad_length m rest few begins bad here text) (content held r found refused) = absurd (never_bad left held r rest m found.length_fits found.there few begins bad)
  one_fault past at left lines began place other why more (ended some cut here text) (bad_length n after also starts worse there said) = absurd (never_both left after n also starts worse cut)
  one_fault past at left lines began place other why more (ended some cut here text) (ended bytes short there said) = (here ∙ sym there, text ∙ sym said)
  one_fault past at left lines began place other why more (ended some cut here text) (too_long held r fits is far there said) = absurd (never_cut left held r fits is cut)
  one_fault past at left lines began place other why more (ended some cut here text) (content held r found refused) = absurd (never_cut left held r found.length_fits found.there cut)
  one_fault past at left lines began place other why more (too_long held r fits is far here text) (bad_length n after also starts worse there said) = absurd (never_bad left held r after n fits is also starts worse)
  one_fault past at left lines began place other why more (too_long held r fits is far here text) (ended some cut there said) = absurd (never_cut left held r fits is cut)
  one_fault past at left lines began place other why more (too_long held r fits is far here text) (too_long b s good_too also away there said) = (here ∙ sym there, text ∙ sym said)
  one_fault past at left lines began place other why more (too_long held r fits is far here text) (content b s found refused) = absurd (never_far at left held b r s fits is far found)
  one_fault past at left lines began place other why more (content held r found refused) (bad_length n after also starts worse there said) = absurd (never_bad left held r after n found.length_fits found.there also starts worse)
  one_fault past at left lines began place other why more (content held r found refused) (ended some cut there said) = absurd (never_cut left held r found.length_fits found.there cut)
  one_fault past at left lines began place other why more (content held r found refused) (too_long b s fits is far there said) = absurd (never_far at left b held s r fits is far found)
  one_fault past at left lines began place other why more (content a r found refused) (content b s here also) =
      let same = one_packet left a b r s found.length_fits here.length_fits found.there here.there in
      let bytes = content_bytes at left a r found (left_bytes past at left lines began) in
      one_refusal schema good past (open_so past at left lines began) a bytes at place other why more refused (subst (λ (z : List ℕ). ContentRefused schema past at z other more) (sym same.0) also)

  ends_once : (past : Log) (at : ℕ) (left lines : List ℕ) (a b : Answer) → Began schema file past at left lines → Ends schema past at left lines a → Ends schema past at left lines b → a ≡ b
  ends_once past at left lines a b began (at_end empty is) (at_end also at_b) = is ∙ sym at_b
  ends_once past at left lines a b began (at_end empty is) (at_packet place why refused at_b) = absurd (never_empty past at left place why empty refused)
  ends_once past at left lines a b began (at_packet place why refused is) (at_end empty at_b) = absurd (never_empty past at left place why empty refused)
  ends_once past at left lines a b began (at_packet place why refused is) (at_packet other more also at_b) =
      let same = one_fault past at left lines began place other why more refused also in
      is ∙ ap₂ (λ (k : ℕ) (z : List ℕ). refused_after lines (input_line k z)) same.0 same.1 ∙ sym at_b

  -- ---- one answer

  pub one_file : (a b : Answer) → OfPackets schema file a → OfPackets schema file b → a ≡ b
  one_file a b h k =
      let x = told_so schema file a h in
      let y = told_so schema file b k in
      let here = stuck x.past x.at x.left x.lines a x.began x.ends in
      let there = stuck y.past y.at y.left y.lines b y.began y.ends in
      let less = no_longer x.past y.past x.at y.at x.left y.left x.lines y.lines x.began y.began here in
      let few = no_longer y.past x.past y.at x.at y.left x.left y.lines x.lines y.began x.began there in
      let same = runs_once x.past y.past x.at y.at x.left y.left x.lines y.lines x.began y.began (omega (arith, less, few)) in
      let by_log : Ends schema y.past x.at x.left x.lines a = subst (λ (z : Log). Ends schema z x.at x.left x.lines a) same.0 x.ends in
      let by_place : Ends schema y.past y.at x.left x.lines a = subst (λ (k : ℕ). Ends schema y.past k x.left x.lines a) same.1 by_log in
      let by_left : Ends schema y.past y.at y.left x.lines a = subst (λ (z : List ℕ). Ends schema y.past y.at z x.lines a) same.2 by_place in
      let by_lines : Ends schema y.past y.at y.left y.lines a = subst (λ (z : List ℕ). Ends schema y.past y.at y.left z a) same.3 by_left in
      ends_once y.past y.at y.left y.lines a b y.began by_lines y.ends
