-- Bytes put one after the other.
use Rattle.std.proofs.Common.{◌≡◌, ℕ, List, [], ◌++◌, sym, ap, subst, ◌∙◌, append_assoc}

module _ {S : Type 0} (puts : S → S → List ℕ → Type 0) where
  -- the same bytes
  pub same_put : (x y : S) (a b : List ℕ) → a ≡ b → puts x y b → puts x y a
  same_put x y a b same put = let P : List ℕ → Type 0 = λ l. puts x y l in subst P (sym same) put

  -- of the whole a prefix was put, and the rest is to come
  pub record Leads (x y : S) (rest whole : List ℕ) : Type 0 where
    pub before : List ℕ
    pub put : puts x y before
    pub splits : before ++ rest ≡ whole

  pub leads_none : ((x : S) → puts x x []) → (x : S) (whole : List ℕ) → Leads x x whole whole
  leads_none none x whole = record { before = []; put = none x; splits = λ i. whole }

  pub leads_first : (x y : S) (a rest whole : List ℕ) → puts x y a → a ++ rest ≡ whole → Leads x y rest whole
  leads_first x y a rest whole put splits = record { before = a; put = put; splits = splits }

  module _ (both : (x y z : S) (a b : List ℕ) → puts x y a → puts y z b → puts x z (a ++ b)) where
    pub leads_more : (x y z : S) (a rest next whole : List ℕ) → Leads x y rest whole → puts y z a → rest ≡ a ++ next → Leads x z next whole
    leads_more x y z a rest next whole leads put is = record {
      before = leads.before ++ a;
      put = both x y z leads.before a leads.put put;
      splits = append_assoc leads.before a next ∙ ap (λ l. leads.before ++ l) (sym is) ∙ leads.splits;
    }

    pub leads_end : (x y z : S) (rest whole : List ℕ) → Leads x y rest whole → puts y z rest → puts x z whole
    leads_end x y z rest whole leads put = same_put x z whole (leads.before ++ rest) (sym leads.splits) (both x y z leads.before rest leads.put put)
