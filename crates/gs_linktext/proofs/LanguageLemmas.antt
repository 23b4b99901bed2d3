-- The bytes of a language at the start of a text, and the rest.
use Rattle.std.proofs.Common.{◌≡◌, ℕ, List, take, drop}
use Rattle.std.specs.List.{prefix_len}
use Rattle.gs_linktext.specs.Links.{is_language_byte}
use Rattle.gs_linktext_grammar.specs.Bytes.{after_prefix, prefix_of}
use Rattle.gs_linktext_grammar.proofs.PrefixLemmas.{drop_prefix, take_prefix}

pub take_language : (text : List ℕ) → take (prefix_len is_language_byte text) text ≡ prefix_of is_language_byte text
take_language text = take_prefix is_language_byte text

pub drop_language : (text : List ℕ) → drop (prefix_len is_language_byte text) text ≡ after_prefix is_language_byte text
drop_language text = drop_prefix is_language_byte text
