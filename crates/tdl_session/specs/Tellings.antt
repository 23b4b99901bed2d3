-- What a caller is told of a session that is not opened, or of classes that are not loaded.
use Rattle.std.specs.Prelude.{◌≡◌, ◌⊎◌, ℕ, Bool, List}
use Rattle.tdl_messages.specs.Rejections.{error_text}
use Rattle.tdl_messages.specs.declared.rejection.FileFault.{FileFault}
use Rattle.tdl_messages.specs.declared.rejection.FileFault.TheVariants as file
use Rattle.tdl_session.specs.Buffers.{IsPut}
use Rattle.tdl_session.specs.Replies.{IsNothingSaid}
use Rattle.tdl_session.specs.declared.opening.Unopened.{Unopened}
use Rattle.tdl_session.specs.declared.opening.Unopened.TheVariants.{Argument, Tables, Prefixes, Classes, Memory}

-- trusted, own: the status of a session that is not opened
abbrev pub unopened_code : Unopened → ℕ
unopened_code Memory = 3
unopened_code Argument = 4
unopened_code (Tables error) = 5
unopened_code (Prefixes error) = 6
unopened_code (Classes error) = 8

-- trusted, own: holds if the status is `code` and the printed reason was put into the buffer, if it has room; or memory ran out
abbrev pub IsFaultTold : ℕ → FileFault → List ℕ → List ℕ → ℕ → ℕ → Type 0
IsFaultTold code fault old new len status =
    ((status ≡ 3) × IsNothingSaid old new len) ⊎ ((status ≡ code) × (fits : Bool) × IsPut (error_text fault) old new len fits)

-- trusted, own: holds if the caller is told so why no session is opened
abbrev pub IsTold : Unopened → List ℕ → List ℕ → ℕ → ℕ → Type 0
IsTold Memory old new len status = (status ≡ 3) × IsNothingSaid old new len
IsTold Argument old new len status = (status ≡ 4) × IsNothingSaid old new len
IsTold (Tables error) old new len status = IsFaultTold 5 (file.Tables error) old new len status
IsTold (Prefixes error) old new len status = IsFaultTold 6 (file.Prefixes error) old new len status
IsTold (Classes error) old new len status = IsFaultTold 8 (file.Classes error) old new len status
