-- Entries loaded one by one.
use Rattle.std.proofs.Common.{◌≡◌, ℕ, ◌+◌, ◌<◌, List, [], ◌∷◌, ◌++◌, Bool, true, false, ◌&&◌, Option, Some, None, IfSome, length, take, get_or, sym, ap, ◌∙◌, subst, arith}
use Rattle.std.proofs.lemmas.List.{take_more}
use Rattle.box_server.specs.Servers.{ServerState, new_server}
use Rattle.box_server.specs.declared.entry.Entry.{Entry}
use Rattle.box_server.specs.Keeping.{IsEntry}
use Rattle.box_server.specs.inner.Loading.{Loaded, Accepted}
use Rattle.box_server.specs.Rebuilding.{are_right, is_accepted, rebuilt, with_entry, IsBad}
use Rattle.box_server.proofs.Rebuilt.{rebuilt_more, right_more, wrong_more}

next_of : (es : List Entry) (n : ℕ) (e : Entry) → n < length es → e ≡ get_or es n e → take (n + 1) es ≡ take n es ++ e ∷ []
next_of es n e there is = take_more es n e there ∙ ap (λ (x : Entry). take n es ++ x ∷ []) (sym is)

pub loaded_next : (o : Option (List Entry)) (all n : ℕ) (s t : ServerState) (e : Entry) → n < all → IsEntry o n e → is_accepted s e ≡ true → t ≡ with_entry s e → IfSome o (λ es. Loaded es all n s) → IfSome o (λ es. Loaded es all (n + 1) t)
loaded_next None all n s t e less is a to k = k
loaded_next (Some es) all n s t e less is a to k =
    let more = next_of es n e (omega (arith, less, k.count)) is in
    record {
      count = k.count;
      right = ap are_right more ∙ right_more new_server (take n es) (e ∷ []) k.right (ap (λ (b : Bool). b && true) (ap (λ (z : ServerState). is_accepted z e) (sym k.server) ∙ a));
      server = to ∙ ap (λ (z : ServerState). with_entry z e) k.server ∙ sym (ap rebuilt more ∙ rebuilt_more new_server (take n es) (e ∷ []));
    }

pub loaded_bad : (o : Option (List Entry)) (all n : ℕ) (s : ServerState) (e : Entry) → n < all → IsEntry o n e → is_accepted s e ≡ false → IfSome o (λ es. Loaded es all n s) → IfSome o (λ es. IsBad es n)
loaded_bad None all n s e less is a k = k
loaded_bad (Some es) all n s e less is a k =
    let more = next_of es n e (omega (arith, less, k.count)) is in
    record {
      there = omega (arith, less, k.count);
      before = k.right;
      with_it = ap are_right more ∙ wrong_more new_server (take n es) (e ∷ []) k.right (ap (λ (b : Bool). b && true) (ap (λ (z : ServerState). is_accepted z e) (sym k.server) ∙ a));
    }

-- the same, of the values that the code has
taken : (b : Bool) (s t : ServerState) (e : Entry) → b ≡ true → Accepted b s e t → (is_accepted s e ≡ true) × (t ≡ with_entry s e)
taken true s t e h a = a
taken false s t e h a = absurd cc

untaken : (b : Bool) (s t : ServerState) (e : Entry) → b ≡ false → Accepted b s e t → is_accepted s e ≡ false
untaken true s t e h a = absurd cc
untaken false s t e h a = a

pub next_at : (o q : Option (List Entry)) (all n : ℕ) (s t : ServerState) (e : Entry) (b : Bool) → q ≡ o → n < all → IsEntry q n e → b ≡ true → Accepted b s e t → IfSome o (λ es. Loaded es all n s) → IfSome o (λ es. Loaded es all (n + 1) t)
next_at o q all n s t e b same less is h a k = let g = taken b s t e h a in loaded_next o all n s t e less (subst (λ (x : Option (List Entry)). IsEntry x n e) same is) g.0 g.1 k

pub bad_at : (o q : Option (List Entry)) (all n : ℕ) (s t : ServerState) (e : Entry) (b : Bool) → q ≡ o → n < all → IsEntry q n e → b ≡ false → Accepted b s e t → IfSome o (λ es. Loaded es all n s) → IfSome o (λ es. IsBad es n)
bad_at o q all n s t e b same less is h a k = loaded_bad o all n s e less (subst (λ (x : Option (List Entry)). IsEntry x n e) same is) (untaken b s t e h a) k
