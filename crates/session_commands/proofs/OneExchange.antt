-- Two exchanges over the same bytes: the one goes on from where the other ends. So there is one that ends, and no other sends more.
use Rattle.std.proofs.Common.{◌≡◌, ◌⊎◌, inl, inr, ℕ, ◌<◌, ◌≤◌, List, [], ◌∷◌, ◌++◌, length, length-append, append-nil, append_assoc, drop, refl, sym, ap, ap₂, ◌∙◌, subst, arith}
use Rattle.tl_numbers.specs.Bytes.{AreBytes}
use Rattle.tl_base.specs.Packets.{IsPacketLength, packet}
use Rattle.tl_types.proofs.Numbers.{bytes_after}
use Rattle.update_sessions.specs.declared.fault.TheConstants.{MAX_FRAMES}
use Rattle.update_sessions.specs.Packed.{Packed}
use Rattle.update_sessions.specs.Exchanges.{Side, sends_all, Exchanged}
use Rattle.update_sessions.specs.Receiving.{ComesFirst}
use Rattle.session_commands.proofs.OnePacket.{same_packet}
use Rattle.session_commands.proofs.OneReply.{body_bytes}

-- ---- rows of packets

cancel : (x r s : List ℕ) → x ++ r ≡ x ++ s → r ≡ s
cancel [] r s e = e
cancel (a ∷ x) r s e = cancel x r s (ap (λ (l : List ℕ). drop 1 l) e)

-- bytes of which a packet is the first are that packet and one rest
pub same_rest : (a b r s : List ℕ) → IsPacketLength (length a) → IsPacketLength (length b) → packet a ++ r ≡ packet b ++ s → (a ≡ b) × (r ≡ s)
same_rest a b r s fits also e =
    let same = same_packet a b r s fits also e in
    (same, cancel (packet a) r s (e ∙ ap (λ (l : List ℕ). packet l ++ s) (sym same)))

pub rest_bytes : (bytes body rest : List ℕ) → bytes ≡ packet body ++ rest → AreBytes bytes → AreBytes rest
rest_bytes bytes body rest is are = bytes_after bytes (packet body) rest is are

-- what messages and others after them spell are the packets of both
packed_parts : {M : Type 0} (Spells : M → List ℕ → Type 0) (ms ns : List M) (z : List ℕ) → Packed Spells (ms ++ ns) z → (x : List ℕ) × (y : List ℕ) × (z ≡ x ++ y) × Packed Spells ms x × Packed Spells ns y
packed_parts Spells [] ns z p = ([], z, refl, refl, p)
packed_parts Spells (m ∷ ms) ns z (b, rest, s, is, p) =
    let more = packed_parts Spells ms ns rest p in
    (packet b ++ more.0, more.1, is ∙ ap (λ (l : List ℕ). packet b ++ l) more.2 ∙ sym (append_assoc (packet b) more.0 more.1), (b, more.0, s, refl, more.3), more.4)

-- messages that are spelled in one way have one row of packets
pub one_packed : {N : Type 0} (Spells : N → List ℕ → Type 0) → ((n : N) (b d : List ℕ) → Spells n b → Spells n d → b ≡ d) → (ns : List N) (x y : List ℕ) → Packed Spells ns x → Packed Spells ns y → x ≡ y
one_packed Spells one [] x y is at = is ∙ sym at
one_packed Spells one (n ∷ ns) x y (b, r, s, is, p) (d, q, t, at, k) =
    is ∙ ap₂ (λ (u v : List ℕ). packet u ++ v) (one n b d s t) (one_packed Spells one ns r q p k) ∙ sym at

module _ {S M N : Type 0} (side : Side S M N) where
  -- ---- the first message

  pub record FirstStep (s : S) (bytes left out : List ℕ) (t : S) (m : M) (ms : List M) : Type 0 where
    pub rest : List ℕ
    pub comes : ComesFirst side.means m bytes rest
    pub takes : side.takes s m
    pub first : List ℕ
    pub others : List ℕ
    pub wrote : Packed side.spells (side.sends s m) first
    pub parts : out ≡ first ++ others
    pub then_on : Exchanged side (side.next s m) rest left others t ms

  pub first_of : (s : S) (bytes left out : List ℕ) (t : S) (m : M) (ms : List M) → Exchanged side s bytes left out t (m ∷ ms) → FirstStep s bytes left out t m ms
  first_of s bytes left out t m ms e =
      let split = packed_parts side.spells (side.sends s m) (sends_all side (side.next s m) ms) out e.wrote in
      record {
        rest = e.came.1;
        comes = record { body = e.came.0; fits = e.came.2; parts = e.came.3; means = e.came.4 };
        takes = e.taken.0;
        first = split.0;
        others = split.1;
        wrote = split.3;
        parts = split.2;
        then_on = record { came = e.came.5; taken = e.taken.1; wrote = split.4; ends = e.ends };
      }

  -- ---- one goes on from the other

  -- after an exchange of ms that ends at t, with this left, that of ns takes more
  pub record GoesOn (left out : List ℕ) (t : S) (ms : List M) (after sent : List ℕ) (u : S) (ns : List M) : Type 0 where
    pub more : List M
    pub all : ns ≡ ms ++ more
    pub rest : List ℕ
    pub wrote : sent ≡ out ++ rest
    pub then_on : Exchanged side t left after rest u more

  from_none : (s : S) (bytes left out after sent : List ℕ) (t u : S) (ns : List M) → Exchanged side s bytes left out t [] → Exchanged side s bytes after sent u ns → GoesOn left out t [] after sent u ns
  from_none s bytes left out after sent t u ns e f =
      record {
        more = ns;
        all = refl;
        rest = sent;
        wrote = sym (ap (λ (l : List ℕ). l ++ sent) e.wrote);
        then_on = subst (λ (v : S). Exchanged side v left after sent u ns) (sym e.ends) (subst (λ (l : List ℕ). Exchanged side s l after sent u ns) e.came f);
      }

  step_on : (m n : M) (ms ns : List M) (x y a b left out after sent : List ℕ) (t u : S) → m ≡ n → x ≡ y → out ≡ x ++ a → sent ≡ y ++ b → GoesOn left a t ms after b u ns → GoesOn left out t (m ∷ ms) after sent u (n ∷ ns)
  step_on m n ms ns x y a b left out after sent t u same also is at g =
      record {
        more = g.more;
        all = ap₂ (λ (k : M) (l : List M). k ∷ l) (sym same) g.all;
        rest = g.rest;
        wrote = at ∙ ap₂ (λ (k l : List ℕ). k ++ l) (sym also) g.wrote ∙ sym (append_assoc x a g.rest) ∙ sym (ap (λ (l : List ℕ). l ++ g.rest) is);
        then_on = g.then_on;
      }

  -- ---- an exchange that ends

  -- these messages were taken, and no more are
  pub record Ended (s : S) (bytes left out : List ℕ) (t : S) (ms : List M) : Type 0 where
    pub exchanged : Exchanged side s bytes left out t ms
    pub few : length ms ≤ MAX_FRAMES
    pub stops : (m : M) (rest : List ℕ) → length ms < MAX_FRAMES → ComesFirst side.means m left rest → side.takes t m → ⊥

  -- two that end are one
  pub record AreOne (left out : List ℕ) (t : S) (ms : List M) (after sent : List ℕ) (u : S) (ns : List M) : Type 0 where
    pub all : ns ≡ ms
    pub wrote : sent ≡ out
    pub left_same : after ≡ left
    pub ends : u ≡ t

  module _ (one : (b : List ℕ) → AreBytes b → (m n : M) → side.means m b → side.means n b → m ≡ n) (spelled : (n : N) (b d : List ℕ) → side.spells n b → side.spells n d → b ≡ d) where
    -- one message comes first
    pub same_first : (bytes r q : List ℕ) (m n : M) → AreBytes bytes → ComesFirst side.means m bytes r → ComesFirst side.means n bytes q → (m ≡ n) × (r ≡ q)
    same_first bytes r q m n are c d =
        let same = same_rest c.body d.body r q c.fits d.fits (sym c.parts ∙ d.parts) in
        (one c.body (body_bytes bytes c.body r c.parts are) m n c.means (subst (side.means n) (sym same.0) d.means), same.1)

    -- the first steps of two exchanges, as of one message
    record OneStep (s : S) (after : List ℕ) (u : S) (m n : M) (ns : List M) (mid first other others : List ℕ) : Type 0 where
      message : m ≡ n
      wrote : first ≡ other
      then_on : Exchanged side (side.next s m) mid after others u ns

    one_step : (m n : M) (ms ns : List M) (s : S) (bytes left out after sent : List ℕ) (t u : S) → AreBytes bytes → (e : FirstStep s bytes left out t m ms) → (f : FirstStep s bytes after sent u n ns)
        → OneStep s after u m n ns e.rest e.first f.first f.others
    one_step m n ms ns s bytes left out after sent t u are e f =
        let same = same_first bytes e.rest f.rest m n are e.comes f.comes in
        let there = subst (λ (k : M). Exchanged side (side.next s k) f.rest after f.others u ns) (sym same.0) f.then_on in
        record {
          message = same.0;
          wrote = one_packed side.spells spelled (side.sends s m) e.first f.first e.wrote (subst (λ (k : M). Packed side.spells (side.sends s k) f.first) (sym same.0) f.wrote);
          then_on = subst (λ (l : List ℕ). Exchanged side (side.next s m) l after f.others u ns) (sym same.1) there;
        }

    pub goes_on : (ms ns : List M) (s : S) (bytes left out after sent : List ℕ) (t u : S) → AreBytes bytes → Exchanged side s bytes left out t ms → Exchanged side s bytes after sent u ns
        → GoesOn left out t ms after sent u ns ⊎ GoesOn after sent u ns left out t ms
    goes_on [] ns s bytes left out after sent t u are e f = inl (from_none s bytes left out after sent t u ns e f)
    goes_on (m ∷ ms) [] s bytes left out after sent t u are e f = inr (from_none s bytes after sent left out u t (m ∷ ms) f e)
    goes_on (m ∷ ms) (n ∷ ns) s bytes left out after sent t u are e f =
        let h = first_of s bytes left out t m ms e in
        let k = first_of s bytes after sent u n ns f in
        let o = one_step m n ms ns s bytes left out after sent t u are h k in
        elim (goes_on ms ns (side.next s m) h.rest left h.others after k.others t u (rest_bytes bytes h.comes.body h.rest h.comes.parts are) h.then_on o.then_on) [
          | inl g ↦ inl (step_on m n ms ns h.first k.first h.others k.others left out after sent t u o.message o.wrote h.parts k.parts g)
          | inr g ↦ inr (step_on n m ns ms k.first h.first k.others h.others after sent left out u t (sym o.message) (sym o.wrote) k.parts h.parts g)
        ]

    -- ---- where one ends

    -- nothing more was taken
    record IsLast (left : List ℕ) (t : S) (after rest : List ℕ) (u : S) (more : List M) : Type 0 where
      none : more ≡ []
      nothing : rest ≡ []
      left_same : after ≡ left
      ends_same : u ≡ t

    no_more : (s : S) (bytes left out : List ℕ) (t : S) (ms : List M) (after rest : List ℕ) (u : S) (more : List M) → Ended s bytes left out t ms → length (ms ++ more) ≤ MAX_FRAMES → Exchanged side t left after rest u more
        → IsLast left t after rest u more
    no_more s bytes left out t ms after rest u [] e few k = record { none = refl; nothing = k.wrote; left_same = sym k.came; ends_same = k.ends }
    no_more s bytes left out t ms after rest u (m ∷ more) e few k =
        let f = first_of t left after rest u m more k in
        absurd (e.stops m f.rest (omega (arith, few, length-append ms (m ∷ more))) f.comes f.takes)

    as_one : (s : S) (bytes left out : List ℕ) (t : S) (ms : List M) (after sent : List ℕ) (u : S) (ns : List M) → Ended s bytes left out t ms → length ns ≤ MAX_FRAMES → GoesOn left out t ms after sent u ns
        → AreOne left out t ms after sent u ns
    as_one s bytes left out t ms after sent u ns e few g =
        let last = no_more s bytes left out t ms after g.rest u g.more e (subst (λ (l : List M). length l ≤ MAX_FRAMES) g.all few) g.then_on in
        record {
          all = g.all ∙ ap (λ (l : List M). ms ++ l) last.none ∙ append-nil ms;
          wrote = g.wrote ∙ ap (λ (l : List ℕ). out ++ l) last.nothing ∙ append-nil out;
          left_same = last.left_same;
          ends = last.ends_same;
        }

    turned : (left out : List ℕ) (t : S) (ms : List M) (after sent : List ℕ) (u : S) (ns : List M) → AreOne after sent u ns left out t ms → AreOne left out t ms after sent u ns
    turned left out t ms after sent u ns one = record { all = sym one.all; wrote = sym one.wrote; left_same = sym one.left_same; ends = sym one.ends }

    pub one_ended : (s : S) (bytes left out : List ℕ) (t : S) (ms : List M) (after sent : List ℕ) (u : S) (ns : List M) → AreBytes bytes → Ended s bytes left out t ms → Ended s bytes after sent u ns
        → AreOne left out t ms after sent u ns
    one_ended s bytes left out t ms after sent u ns are e f =
        elim (goes_on ms ns s bytes left out after sent t u are e.exchanged f.exchanged) [
          | inl g ↦ as_one s bytes left out t ms after sent u ns e f.few g
          | inr g ↦ turned left out t ms after sent u ns (as_one s bytes after sent u ns left out t ms f e.few g)
        ]
