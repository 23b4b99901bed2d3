-- The commands: for each the arguments of it and its operands, the names that it takes, and the files and streams that it uses.
use Rattle.std.specs.Prelude.{ℕ, nat_le, ◌||◌, Bool, true, false, List, [], ◌∷◌, ◌++◌, Some, None, codes, decimal}
use Rattle.gs_translate.specs.declared.form.Form.{Form}
use Rattle.gs_translate.specs.declared.form.Form.TheVariants.{Hex, Tag, Pure, Raw, Bracketed, Link}
use Rattle.tdl_arguments.specs.declared.command.Command.{Command}
use Rattle.gs_translate.specs.declared.form.Target.{Target}
use Rattle.gs_translate.specs.declared.form.Target.TheVariants as target
use Rattle.tdl_arguments.specs.declared.command.Command.TheVariants.{Canon, Translate, Check, Resolve, Serve, Gen, Migrate, ClassCanon, ClassUri, DumpRead, DumpWrite, Merge}
use Rattle.tdl_arguments.specs.declared.name.Name.{Name}
use Rattle.tdl_arguments.specs.declared.name.Name.TheVariants.{Tables, Prefixes, Links, Describe, Classes, Voc, Listen, Count, Filter, Gcp, Encoding, KeysOnly, Stem, LinkText, Second, Third, Templates}
use Rattle.tdl_arguments.specs.declared.name.NameRow.{NameRow}
use Rattle.tdl_arguments.specs.Ranges.{most_lines}

-- trusted, own: the word of a form
abbrev pub form_word : Form → List ℕ
form_word Hex = codes "hex"
form_word Tag = codes "tag"
form_word Pure = codes "pure"
form_word Raw = codes "raw"
form_word Bracketed = codes "bracketed"
form_word Link = codes "link"

-- trusted, own: the word of a form that texts are translated to
abbrev pub target_word : Target → List ℕ
target_word target.Hex = codes "hex"
target_word target.Tag = codes "tag"
target_word target.Pure = codes "pure"
target_word target.Raw = codes "raw"
target_word target.Bracketed = codes "bracketed"
target_word target.Link = codes "link"
target_word target.Canon = codes "canon"

-- trusted, own: the words of a command, without its operands
abbrev pub command_name : Command → List (List ℕ)
command_name (Canon form) = codes "canon" ∷ []
command_name (Translate from to) = codes "translate" ∷ []
command_name Check = codes "check" ∷ []
command_name Resolve = codes "resolve" ∷ []
command_name Serve = codes "serve" ∷ []
command_name (Gen lines) = codes "gen" ∷ []
command_name Migrate = codes "migrate" ∷ []
command_name ClassCanon = codes "class" ∷ codes "canon" ∷ []
command_name ClassUri = codes "class" ∷ codes "uri" ∷ []
command_name DumpRead = codes "dump" ∷ codes "read" ∷ []
command_name DumpWrite = codes "dump" ∷ codes "write" ∷ []
command_name Merge = codes "merge" ∷ []

-- trusted, own: the operands of a command
abbrev pub operands_of : Command → List (List ℕ)
operands_of (Canon form) = form_word form ∷ []
operands_of (Translate from to) = form_word from ∷ target_word to ∷ []
operands_of (Gen lines) = decimal lines ∷ []
operands_of command = []

-- trusted, own: the words of a command and its operands
abbrev pub command_words : Command → List (List ℕ)
command_words command = command_name command ++ operands_of command

-- trusted, own: holds if the operands of the command are in range
abbrev pub operands_in_range : Command → Bool
operands_in_range (Gen lines) = nat_le lines most_lines
operands_in_range command = true

-- trusted, own: the row of a name that may be absent
abbrev pub optional : Name → NameRow
optional name = record { name = name; instead = None; required = false }

-- trusted, own: the row of a name that must be there
abbrev pub needed : Name → NameRow
needed name = record { name = name; instead = None; required = true }

-- trusted, own: the row of a name, or another instead, that may be absent
abbrev pub optional_either : Name → Name → NameRow
optional_either name other = record { name = name; instead = Some other; required = false }

-- trusted, own: the row of a name that must be there, or another instead
abbrev pub needed_either : Name → Name → NameRow
needed_either name other = record { name = name; instead = Some other; required = true }

-- trusted, own: the names that a command takes
abbrev pub names_of : Command → List NameRow
names_of (Canon form) = optional Tables ∷ []
names_of (Translate from to) =
    optional Tables ∷ optional Prefixes ∷ optional Filter ∷ optional Gcp ∷ optional Encoding ∷ optional KeysOnly ∷ optional Stem ∷ []
names_of Check = optional Tables ∷ optional Prefixes ∷ optional_either Links LinkText ∷ optional Voc ∷ optional Templates ∷ []
names_of Resolve = needed_either Links LinkText ∷ optional Tables ∷ optional Voc ∷ optional Templates ∷ optional Describe ∷ []
names_of Serve =
    needed_either Links LinkText ∷ needed Count ∷ optional Tables ∷ optional Voc ∷ optional Templates ∷ optional Describe ∷ optional Listen ∷ []
names_of (Gen lines) = optional Tables ∷ []
names_of Migrate = needed Tables ∷ []
names_of ClassCanon = optional Tables ∷ optional Classes ∷ []
names_of ClassUri = optional Tables ∷ optional Prefixes ∷ optional Classes ∷ optional Gcp ∷ []
names_of DumpRead = optional Tables ∷ []
names_of DumpWrite = optional Tables ∷ []
names_of Merge = needed Links ∷ needed Second ∷ optional Third ∷ optional Tables ∷ optional Voc ∷ []

-- trusted, own: The work of a command. It is on the lines of the input, on its request heads like those of one connection, on
-- the listener, or on none of these.
pub data Work : Type 0 where
  on_lines : Work
  on_heads : Work
  on_door : Work
  on_none : Work

-- trusted, own: the work of a command
abbrev pub work_of : Command → Work
work_of (Canon form) = on_lines
work_of (Translate from to) = on_lines
work_of Check = on_none
work_of Resolve = on_heads
work_of Serve = on_door
work_of (Gen lines) = on_none
work_of Migrate = on_none
work_of ClassCanon = on_lines
work_of ClassUri = on_lines
work_of DumpRead = on_lines
work_of DumpWrite = on_lines
work_of Merge = on_none

-- trusted, own: holds if the work is on the lines of the input
abbrev pub is_on_lines : Work → Bool
is_on_lines on_lines = true
is_on_lines work = false

-- trusted, own: holds if the work is on the heads of the input
abbrev pub is_on_heads : Work → Bool
is_on_heads on_heads = true
is_on_heads work = false

-- trusted, own: holds if the work is on the listener
abbrev pub is_on_door : Work → Bool
is_on_door on_door = true
is_on_door work = false

-- trusted, own: holds if `command` answers the lines of the input
abbrev pub answers_lines : Command → Bool
answers_lines command = is_on_lines (work_of command)

-- trusted, own: holds if the command answers the heads of the input as those of one connection
abbrev pub answers_heads : Command → Bool
answers_heads command = is_on_heads (work_of command)

-- trusted, own: holds if `command` uses the input
abbrev pub reads_input : Command → Bool
reads_input command = answers_lines command || answers_heads command

-- trusted, own: holds if the command uses the listener
abbrev pub uses_door : Command → Bool
uses_door command = is_on_door (work_of command)
