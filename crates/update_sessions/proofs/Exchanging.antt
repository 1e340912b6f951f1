-- Exchanges, one after the other.
use Rattle.std.proofs.Common.{◌≡◌, ℕ, ◌+◌, ◌≤◌, List, [], ◌∷◌, ◌++◌, length, length-append, refl, sym, ap, ◌∙◌, subst, append_assoc, append-nil, arith}
use Rattle.update_sessions.specs.Packed.{Packed, PartlyPacked, Came}
use Rattle.update_sessions.specs.Exchanges.{Side, TakesAll, after_all, sends_all, Exchanged, Cut, Broken, MaySendFor}
use Rattle.update_sessions.specs.Receiving.{ComesFirst}
use Rattle.update_sessions.proofs.Packets.{packed_then, came_then}

module _ {S M N : Type 0} (side : Side S M N) where
  takes_then : (s : S) (ms ns : List M) → TakesAll side s ms → TakesAll side (after_all side s ms) ns → TakesAll side s (ms ++ ns)
  takes_then s [] ns p q = q
  takes_then s (m ∷ ms) ns p q = (p.0, takes_then (side.next s m) ms ns p.1 q)

  pub after_then : (s : S) (ms ns : List M) → after_all side s (ms ++ ns) ≡ after_all side (after_all side s ms) ns
  after_then s [] ns = refl
  after_then s (m ∷ ms) ns = after_then (side.next s m) ms ns

  sends_then : (s : S) (ms ns : List M) → sends_all side s (ms ++ ns) ≡ sends_all side s ms ++ sends_all side (after_all side s ms) ns
  sends_then s [] ns = refl
  sends_then s (m ∷ ms) ns =
      ap (λ (l : List N). side.sends s m ++ l) (sends_then (side.next s m) ms ns)
      ∙ sym (append_assoc (side.sends s m) (sends_all side (side.next s m) ms) (sends_all side (after_all side (side.next s m) ms) ns))

  joined : (s : S) (bytes mid left x y : List ℕ) (t : S) (ms ns : List M) → Exchanged side s bytes mid x (after_all side s ms) ms → Exchanged side (after_all side s ms) mid left y t ns → Exchanged side s bytes left (x ++ y) t (ms ++ ns)
  joined s bytes mid left x y t ms ns p q =
      record {
        came = came_then side.means bytes ms ns mid left p.came q.came;
        taken = takes_then s ms ns p.taken q.taken;
        wrote = subst (λ (l : List N). Packed side.spells l (x ++ y)) (sym (sends_then s ms ns)) (packed_then side.spells (sends_all side s ms) (sends_all side (after_all side s ms) ns) x y p.wrote q.wrote);
        ends = q.ends ∙ sym (after_then s ms ns);
      }

  pub exchanged_then : (s u t : S) (bytes mid left x y : List ℕ) (ms ns : List M) → Exchanged side s bytes mid x u ms → Exchanged side u mid left y t ns → Exchanged side s bytes left (x ++ y) t (ms ++ ns)
  exchanged_then s u t bytes mid left x y ms ns p q =
      joined s bytes mid left x y t ms ns (subst (λ (v : S). Exchanged side s bytes mid x v ms) p.ends p) (subst (λ (v : S). Exchanged side v mid left y t ns) p.ends q)

  -- nothing came yet
  pub exchanged_none : (s : S) (bytes : List ℕ) → Exchanged side s bytes bytes [] s []
  exchanged_none s bytes = record { came = refl; taken = tt; wrote = refl; ends = refl }

  -- nothing more came, and nothing more was written
  pub exchanged_still : (s u t : S) (bytes left x y : List ℕ) (ms : List M) → Exchanged side s bytes left x u ms → y ≡ [] → t ≡ u → Exchanged side s bytes left (x ++ y) t ms
  exchanged_still s u t bytes left x y ms p none same =
      record {
        came = p.came;
        taken = p.taken;
        wrote = subst (λ (l : List ℕ). Packed side.spells (sends_all side s ms) l) (sym (ap (λ (l : List ℕ). x ++ l) none ∙ append-nil x)) p.wrote;
        ends = same ∙ p.ends;
      }

  one_came : (bytes rest : List ℕ) (m : M) → ComesFirst side.means m bytes rest → Came side.means bytes (m ∷ []) rest
  one_came bytes rest m c = (c.body, rest, c.fits, c.parts, c.means, refl)

  -- a message came, and all that is sent for it was written
  pub exchanged_one : (s t : S) (bytes rest out : List ℕ) (m : M) → ComesFirst side.means m bytes rest → side.takes s m → Packed side.spells (side.sends s m) out → t ≡ side.next s m → Exchanged side s bytes rest out t (m ∷ [])
  exchanged_one s t bytes rest out m c takes wrote is =
      record {
        came = one_came bytes rest m c;
        taken = (takes, tt);
        wrote = subst (λ (l : List N). Packed side.spells l out) (sym (append-nil (side.sends s m))) wrote;
        ends = is;
      }

  -- likewise, but only a prefix of that was written
  pub cut_one : (s t : S) (bytes rest out : List ℕ) (m : M) → ComesFirst side.means m bytes rest → side.takes s m → PartlyPacked side.spells (side.sends s m) out → t ≡ side.next s m → Cut side s bytes out t (m ∷ [])
  cut_one s t bytes rest out m c takes wrote is =
      record {
        left = rest;
        came = one_came bytes rest m c;
        taken = (takes, tt);
        wrote = subst (λ (l : List N). PartlyPacked side.spells l out) (sym (append-nil (side.sends s m))) wrote;
        ends = is;
      }

  -- nothing came, or it counts for nothing
  pub cut_none : (s t : S) (bytes : List ℕ) → t ≡ s → Cut side s bytes [] t []
  cut_none s t bytes same = record { left = bytes; came = refl; taken = tt; wrote = refl; ends = same }

  -- what may be written further
  pub may_send_more : (most n k : ℕ) (s u : S) (bytes mid x y : List ℕ) (ms : List M) → length ms ≡ n → n + k ≤ most → Exchanged side s bytes mid x u ms → MaySendFor side k u mid y → MaySendFor side most s bytes (x ++ y)
  may_send_more most n k s u bytes mid x y ms len few p q = (ms ++ q.0, q.1, q.2, exchanged_then s u q.2 bytes mid q.1 x y ms q.0 p q.3, omega (arith, length-append ms q.0, len, few, q.4))

  -- what a side is after an exchange that broke off
  pub broken_ends : (s t : S) (bytes out : List ℕ) (ms : List M) → Broken side s bytes out t ms → t ≡ after_all side s ms
  broken_ends s t bytes out ms b =
      b.cut.ends ∙ ap (λ (v : S). after_all side v b.last) b.exchanged.ends ∙ sym (after_then s b.first b.last) ∙ ap (λ (l : List M). after_all side s l) (sym b.all)
