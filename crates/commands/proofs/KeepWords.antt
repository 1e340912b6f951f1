-- The words of `keep`, by each of five.
use Rattle.std.proofs.Common.{◌≡◌, ℕ, ◌<◌, ◌≤◌, List, [], ◌∷◌, length, map, slice_index_or, Option, Some, None, codes, sym, ap, ◌∙◌, subst, arith}
use Rattle.commands.specs.Numbers.{IsNumberWord, number_from}
use Rattle.commands.specs.Requests.{IsOperand, sessions_range}
use Rattle.commands.specs.KeepWords.{AsksToKeep, FindsKeep, FindsOperands, KeepText}
use Rattle.commands.specs.declared.keep_words.KeepRequest.{KeepRequest}

-- five words, each as it was looked up
pub five : (A : Type 0) (f : A → List ℕ) (ws : List A) (a b d e h : A) → 5 ≤ length ws → length ws < 6 → a ≡ slice_index_or ws 0 a → b ≡ slice_index_or ws 1 b → d ≡ slice_index_or ws 2 d → e ≡ slice_index_or ws 3 e → h ≡ slice_index_or ws 4 h
    → map f ws ≡ f a ∷ f b ∷ f d ∷ f e ∷ f h ∷ []
five A f [] a b d e h least most i j k l m = absurd (omega (arith, least))
five A f (v ∷ []) a b d e h least most i j k l m = absurd (omega (arith, least))
five A f (v ∷ w ∷ []) a b d e h least most i j k l m = absurd (omega (arith, least))
five A f (v ∷ w ∷ x ∷ []) a b d e h least most i j k l m = absurd (omega (arith, least))
five A f (v ∷ w ∷ x ∷ y ∷ []) a b d e h least most i j k l m = absurd (omega (arith, least))
five A f (v ∷ w ∷ x ∷ y ∷ z ∷ []) a b d e h least most i j k l m =
    let p : a ≡ v = i in
    let q : b ≡ w = j in
    let r : d ≡ x = k in
    let s : e ≡ y = l in
    let t : h ≡ z = m in
    cc
five A f (v ∷ w ∷ x ∷ y ∷ z ∷ u ∷ ws) a b d e h least most i j k l m = absurd (omega (arith, most))

parts : (words : List (List ℕ)) (a b d e h s t u v : List ℕ) → words ≡ a ∷ b ∷ d ∷ e ∷ h ∷ [] → words ≡ codes "keep" ∷ s ∷ t ∷ u ∷ v ∷ [] → (b ≡ s) × (d ≡ t) × (e ≡ u) × (h ≡ v)
parts words a b d e h s t u v is at = (cc, cc, cc, cc)

pub found : (words : List (List ℕ)) (a b d e h : List ℕ) (r : Option KeepRequest) → words ≡ a ∷ b ∷ d ∷ e ∷ h ∷ [] → a ≡ codes "keep" → FindsOperands b d e h r → FindsKeep words r
found words a b d e h (Some k) is keep (schema, address, file, one, two, number, three) = (
  e,
  is ∙ ap (λ (x : List ℕ). x ∷ b ∷ d ∷ e ∷ h ∷ []) keep ∙ ap (λ (x : List ℕ). codes "keep" ∷ x ∷ d ∷ e ∷ h ∷ []) (sym schema) ∙ ap (λ (x : List ℕ). codes "keep" ∷ k.schema.now ∷ x ∷ e ∷ h ∷ []) (sym address)
      ∙ ap (λ (x : List ℕ). codes "keep" ∷ k.schema.now ∷ k.address.now ∷ e ∷ x ∷ []) (sym file),
  subst IsOperand (sym schema) one,
  subst IsOperand (sym address) two,
  number,
  subst IsOperand (sym file) three,
)
found words a b d e h None is keep none = λ k asked.
    let p = parts words a b d e h k.schema k.address asked.0 k.file is asked.1 in
    none k.sessions (subst IsOperand (sym p.0) asked.2) (subst IsOperand (sym p.1) asked.3) (subst (λ (n : List ℕ). IsNumberWord sessions_range n k.sessions) (sym p.2) asked.4) (subst IsOperand (sym p.3) asked.5)

-- ---- words ask to keep one thing

same_words : (words : List (List ℕ)) (a b d e k l m n : List ℕ) → words ≡ codes "keep" ∷ a ∷ b ∷ d ∷ e ∷ [] → words ≡ codes "keep" ∷ k ∷ l ∷ m ∷ n ∷ [] → (a ≡ k) × (b ≡ l) × (d ≡ m) × (e ≡ n)
same_words words a b d e k l m n is at = (cc, cc, cc, cc)

same_text : (j k : KeepText) → j.schema ≡ k.schema → j.address ≡ k.address → j.sessions ≡ k.sessions → j.file ≡ k.file → j ≡ k
same_text j k a b m x =
    let make : List ℕ → List ℕ → ℕ → List ℕ → KeepText = λ schema address sessions file. record { schema = schema; address = address; sessions = sessions; file = file } in
    ap (λ (z : List ℕ). make z j.address j.sessions j.file) a ∙ ap (λ (z : List ℕ). make k.schema z j.sessions j.file) b ∙ ap (λ (z : ℕ). make k.schema k.address z j.file) m ∙ ap (λ (z : List ℕ). make k.schema k.address k.sessions z) x

pub one_keep : (words : List (List ℕ)) (j k : KeepText) → AsksToKeep words j → AsksToKeep words k → j ≡ k
one_keep words j k a b =
    let p = same_words words j.schema j.address a.0 j.file k.schema k.address b.0 k.file a.1 b.1 in
    let number : j.sessions ≡ k.sessions = a.4.value ∙ ap (λ (w : List ℕ). number_from 0 w) p.2 ∙ sym b.4.value in
    same_text j k p.0 p.1 number p.3
