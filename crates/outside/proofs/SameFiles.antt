-- A name has one file at most, and where all files are of bytes, so is its.
use Rattle.std.proofs.Common.{◌≡◌, List, [], ◌∷◌, ℕ, sym, ◌∙◌, subst, inl, inr}
use Rattle.tl_numbers.specs.Bytes.{AreBytes}
use Rattle.tl_base.specs.Contents.{Files, HoldBytes}
use Rattle.tl_base.specs.Outside.{HasFile}

pub same_file : (files : Files) (name a b : List ℕ) → HasFile files name a → HasFile files name b → a ≡ b
same_file [] name a b h k = absurd h
same_file (f ∷ fs) name a b (inl h) (inl k) = sym h.1 ∙ k.1
same_file (f ∷ fs) name a b (inl h) (inr k) = absurd (k.0 h.0)
same_file (f ∷ fs) name a b (inr h) (inl k) = absurd (h.0 k.0)
same_file (f ∷ fs) name a b (inr h) (inr k) = same_file fs name a b h.1 k.1

pub file_bytes : (files : Files) (name bytes : List ℕ) → HoldBytes files → HasFile files name bytes → AreBytes bytes
file_bytes [] name bytes all has = absurd has
file_bytes (f ∷ fs) name bytes all (inl here) = subst AreBytes here.1 all.0
file_bytes (f ∷ fs) name bytes all (inr later) = file_bytes fs name bytes all.1 later.1
