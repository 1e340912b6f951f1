use Rattle.std.proofs.Common.{refl, ap, ◌∙◌, ◌∷◌, ◌++◌, [], List, ℕ, map}
use Rattle.std.proofs.lemmas.List.{map_push}
use Rattle.tl_base.specs.MemoryContents.{file_view, lefts}
use Rattle.tl_base.specs.MemoryShown.{view_of}
use Rattle.tl_base.specs.declared.mem_contents.MemFile.{MemFile}
use Rattle.tl_base.proofs.Opened.{lefts_file}
use Rattle.tl_base.proofs.Showing.{these}
use Rattle.tl_base.proofs.mem_shown.MemShown.add_file.Goals as goal

pub returns-clause-ok : goal.returns-clause-ok
returns-clause-ok c =
    let s = c.args.self.now in
    let named = c.in_ok-name.ensures ∙ c.as_bytes.ensures.value in
    these (view_of s) _ _ _ _ _ _ _ _
    (ap (map file_view) c.in_ok-push.ensures.items ∙ (map_push file_view s.files.items _ ∙ ap (λ (n : List ℕ). map file_view s.files.items ++ (n, c.args.bytes) ∷ []) named))
    (ap (λ (l : List MemFile). lefts l s.links.items s.readings) c.in_ok-push.ensures.items ∙ lefts_file s.files.items _ s.links.items s.readings s.opened)
    refl refl
