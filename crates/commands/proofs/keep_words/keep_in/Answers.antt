use Rattle.std.proofs.Common.{◌≡◌, [], rules, codes, string_bytes}
use Rattle.commands.proofs.KeepWords.{five, found}
use Rattle.commands.proofs.keep_words.keep_in.Goals as goal

pub returns-else-ne : goal.returns-else-ne
returns-else-ne c =
    let words = five _ string_bytes c.args.words.now _ _ _ _ _ c.in-len5.len_at_least c.in-len5.len_below c.command-item.is c.schema-item.is c.address-item.is c.sessions-item.is c.file-item.is in
    let keep : string_bytes c.command-item.result ≡ codes "keep" = search rules in
    found _ _ _ _ _ _ c.keep_of.result words keep (search rules)
