-- The printed rejections of files.
use Rattle.std.specs.Prelude.{ℕ, if◌then◌else◌, List, [], ◌∷◌, ◌++◌, map, codes}
use Rattle.gs_ai.specs.declared.errors.AiFault.{AiFault}
use Rattle.gs_ai.specs.declared.errors.AiFault.TheVariants as ai
use Rattle.gs_chars.specs.Characters.{is_visible}
use Rattle.gs_tables_document.specs.declared.error.LimitName.{LimitName}
use Rattle.gs_tables_document.specs.declared.error.LimitName.TheVariants.{Ais, Kinds, Options, Items, Size}
use Rattle.gs_tables_document.specs.declared.error.LoadFault.{LoadFault}
use Rattle.gs_tables_document.specs.declared.error.LoadFault.TheVariants.{Json, Version, Limit, Ai, BadKind, BadItem, Mismatch, Duplicate, Ambiguous, Memory}
use Rattle.gs_tables_document.specs.declared.document.LevelName.{LevelName}
use Rattle.gs_tables_document.specs.declared.document.LevelName.TheVariants.{Binary, Tag, Pure}
use Rattle.gs_class.specs.declared.error.ClassLoadFault.{ClassLoadFault}
use Rattle.gs_class.specs.declared.error.ClassLoadFault.TheVariants as class
use Rattle.gs_json.specs.declared.error.JsonFault.{JsonFault}
use Rattle.gs_json.specs.declared.error.JsonFault.TheVariants as json
use Rattle.gs_links.specs.declared.error.AnchorWhy.{AnchorWhy}
use Rattle.gs_links.specs.declared.error.AnchorWhy.TheVariants as anchor
use Rattle.gs_links.specs.declared.error.StoreFault.{StoreFault}
use Rattle.gs_links.specs.declared.error.StoreFault.TheVariants as store
use Rattle.gs_linktext_grammar.specs.declared.error.LinkTextFault.{LinkTextFault}
use Rattle.gs_linktext_grammar.specs.declared.error.LinkTextFault.TheVariants as text
use Rattle.gs_prefix.specs.declared.error.PrefixFault.{PrefixFault}
use Rattle.gs_prefix.specs.declared.error.PrefixFault.TheVariants as prefix
use Rattle.gs_template.specs.declared.error.PlaceFault.{PlaceFault}
use Rattle.gs_template.specs.declared.error.PlaceFault.TheVariants.{Brace, Code}
use Rattle.gs_translate.specs.declared.reason.Reason.TheVariants.{Ident}
use Rattle.gs_translate.specs.Meanings.{link_reason}
use Rattle.gs_translate.specs.Reasons.{numbered, numbered_twice, reason_text}
use Rattle.tdl_messages.specs.declared.file_kind.FileKind.{FileKind}
use Rattle.tdl_messages.specs.declared.file_kind.FileKind.TheVariants as kind
use Rattle.tdl_messages.specs.declared.rejection.Rejection.{Rejection}
use Rattle.tdl_messages.specs.declared.rejection.FileFault.{FileFault}
use Rattle.tdl_messages.specs.declared.rejection.FileFault.TheVariants.{Over, Tables, Prefixes, Linkset, Store, Classes, LinkText, Place}

-- trusted, own: the word that a rejection of a kind of file is printed with
abbrev pub file_word : FileKind → List ℕ
file_word kind.Tables = codes "tables"
file_word kind.Prefixes = codes "prefixes"
file_word kind.Links = codes "links"
file_word kind.Second = codes "second"
file_word kind.Third = codes "third"
file_word kind.Merge = codes "merge"
file_word kind.Describe = codes "describe"
file_word kind.Classes = codes "classes"

-- trusted, own: the most bytes of a kind of file
abbrev pub file_limit : FileKind → ℕ
file_limit kind.Tables = 2097152
file_limit kind.Prefixes = 4194304
file_limit kind.Links = 16777216
file_limit kind.Second = 16777216
file_limit kind.Third = 16777216
file_limit kind.Merge = 16777216
file_limit kind.Describe = 1048576
file_limit kind.Classes = 1048576

-- trusted, own: the printed place
abbrev pub shown : List ℕ → List ℕ
shown place = map (λ c. if is_visible c then c else 63) place

-- trusted, own: the text of why a document does not have its form
abbrev pub json_text : JsonFault → List ℕ
json_text json.Syntax = codes "syntax"
json_text (json.Lacks place) = codes "lacks " ++ shown place
json_text (json.Kind place) = codes "kind " ++ shown place
json_text (json.Unknown place) = codes "unknown " ++ shown place
json_text json.Memory = codes "memory"

-- trusted, own: the name of a limit
abbrev pub limit_text : LimitName → List ℕ
limit_text Ais = codes "ais"
limit_text Kinds = codes "kinds"
limit_text Options = codes "options"
limit_text Items = codes "items"
limit_text Size = codes "size"

-- trusted, own: the name of a level
abbrev pub level_text : LevelName → List ℕ
level_text Binary = codes "binary"
level_text Tag = codes "tag"
level_text Pure = codes "pure"

-- trusted, own: the text of a word and a level
abbrev pub of_level : List ℕ → LevelName → List ℕ
of_level word level = word ++ 32 ∷ level_text level

-- trusted, own: the text of a word, a level and two numbers
abbrev pub of_level_twice : List ℕ → LevelName → ℕ → ℕ → List ℕ
of_level_twice word level i j = numbered_twice (of_level word level) i j

-- trusted, own: the text of why an application identifier breaks a rule
abbrev pub ai_text : AiFault → List ℕ
ai_text (ai.BadAi i) = numbered (codes "ai") i
ai_text (ai.CodePrefix j i) = numbered_twice (codes "code-prefix") j i
ai_text (ai.KeyIsQualifier i) = numbered (codes "key-is-qualifier") i
ai_text (ai.PredefinedLength i) = numbered (codes "predefined") i
ai_text ai.Memory = codes "memory"

-- trusted, own: the text of an error of tables
abbrev pub tables_text : LoadFault → List ℕ
tables_text (Json error) = codes "json " ++ json_text error
tables_text Version = codes "version"
tables_text (Limit name) = codes "limit " ++ limit_text name
tables_text (Ai error) = ai_text error
tables_text (BadKind i) = numbered (codes "bad-kind") i
tables_text (BadItem level i k) = of_level_twice (codes "bad-item") level i k
tables_text (Mismatch level i) = numbered (of_level (codes "mismatch") level) i
tables_text (Duplicate level j i) = of_level_twice (codes "duplicate") level j i
tables_text (Ambiguous level i j text) = of_level_twice (codes "ambiguous") level i j ++ 32 ∷ text
tables_text Memory = codes "memory"

-- trusted, own: the text of an error of a list of company prefix lengths
abbrev pub prefixes_text : PrefixFault → List ℕ
prefixes_text (prefix.Json error) = codes "json " ++ json_text error
prefixes_text (prefix.BadPrefix i) = numbered (codes "bad-prefix") i
prefixes_text (prefix.BadLength i) = numbered (codes "bad-length") i
prefixes_text (prefix.Twice i) = numbered (codes "twice") i
prefixes_text prefix.Limit = codes "limit"
prefixes_text prefix.Memory = codes "memory"

-- trusted, own: the text of why an anchor is invalid: the one that is printed after `no ` for the same error of a link or an
-- identity
abbrev pub anchor_text : AnchorWhy → List ℕ
anchor_text (anchor.Link error) = reason_text (link_reason error)
anchor_text (anchor.Ident error) = reason_text (Ident error)
anchor_text anchor.Attributes = codes "attributes"

-- trusted, own: the text of an error of a linkset as a store of links
abbrev pub store_text : StoreFault → List ℕ
store_text store.TooMany = codes "too-many"
store_text (store.BadAnchor i why) = numbered (codes "bad-anchor") i ++ 32 ∷ anchor_text why
store_text (store.BadHref i r t) = numbered (numbered_twice (codes "bad-href") i r) t
store_text store.Memory = codes "memory"

-- trusted, own: the text of an error of a linkset as text, by the number of its link
abbrev pub link_text_text : LinkTextFault → List ℕ
link_text_text text.Syntax = codes "text syntax"
link_text_text (text.Anchor i) = numbered (codes "text anchor") i
link_text_text (text.Rel i) = numbered (codes "text rel") i
link_text_text text.Memory = codes "text memory"

-- trusted, own: the text of an error of the template that a link's reference is, by the number of the link and the place of the
-- byte
abbrev pub place_text : ℕ → PlaceFault → List ℕ
place_text i (Brace at) = numbered_twice (codes "brace") i at
place_text i (Code at) = numbered_twice (codes "place") i at

-- trusted, own: the text of an error of classes
abbrev pub classes_text : ClassLoadFault → List ℕ
classes_text (class.Json error) = codes "json " ++ json_text error
classes_text class.Version = codes "version"
classes_text class.Limit = codes "limit"
classes_text (class.BadItem i k) = numbered_twice (codes "bad-item") i k
classes_text (class.Size i) = numbered (codes "size") i
classes_text (class.Mismatch i) = numbered (codes "mismatch") i
classes_text (class.Duplicate j i) = numbered_twice (codes "duplicate") j i
classes_text (class.Ambiguous i j text) = numbered_twice (codes "ambiguous") i j ++ 32 ∷ text
classes_text class.Memory = codes "memory"

-- trusted, own: the text of why a file is rejected
abbrev pub error_text : FileFault → List ℕ
error_text Over = codes "over"
error_text (Tables error) = tables_text error
error_text (Prefixes error) = prefixes_text error
error_text (Linkset error) = codes "json " ++ json_text error
error_text (Store error) = store_text error
error_text (LinkText error) = link_text_text error
error_text (Place i error) = place_text i error
error_text (Classes error) = classes_text error

-- trusted, own: the line of a rejected file: `refused WHICH REASON`, and a line feed
abbrev pub rejected_line : Rejection → List ℕ
rejected_line rejection = codes "refused " ++ file_word rejection.kind ++ 32 ∷ error_text rejection.error ++ 10 ∷ []
