-- What a program that fails says. Definitions only: nothing is assumed.
use Rattle.std.specs.Prelude.{◌≡◌, ◌⊎◌, ℕ, List, ◌++◌, Some, None, Option, codes, string_bytes}
use Rattle.std.specs.Option.{option_map}
use Rattle.session.specs.Held as run
use Rattle.session.specs.declared.error.RunError.TheVariants as run_error
use Rattle.text.specs.declared.streaming.StreamError.{StreamError}
use Rattle.text.specs.declared.streaming.StreamError.TheVariants as stream_error
use Rattle.journal.specs.Errors.{error_text}
use Rattle.journal.specs.declared.error.ReplayError.TheVariants as replay_error
use Rattle.arguments.specs.Options.{option_name, misuse_text}
use Rattle.command_line.specs.declared.failure.Failure.{Failure}
use Rattle.command_line.specs.declared.failure.Failure.TheVariants.{Arguments, Word, End, File, Input, Output, Run, Journal}
use Rattle.arguments.specs.declared.misuse.Misuse.{Misuse}
use Rattle.command_line.specs.declared.trouble.Trouble.{Trouble}
use Rattle.command_line.specs.declared.trouble.Trouble.TheVariants.{System, Locked, NoJournal, OtherLimits, Stopped, CallsToo, StreamClosed}
use Rattle.arguments.specs.declared.misuse.Misuse.TheVariants.{NoSuchOption, SecondFile, SecondJournal, NotANumber, NumberMissing, JournalMissing, OutOfMemory}

-- what is said of a word
abbrev pub word_text : List ℕ → Misuse → List ℕ
word_text w (NotANumber x) = option_name x ++ codes " " ++ w ++ codes ": " ++ misuse_text (NotANumber x)
word_text w OutOfMemory = misuse_text OutOfMemory
word_text w NoSuchOption = w ++ codes ": " ++ misuse_text NoSuchOption
word_text w SecondFile = w ++ codes ": " ++ misuse_text SecondFile
word_text w SecondJournal = w ++ codes ": " ++ misuse_text SecondJournal
word_text w (NumberMissing x) = w ++ codes ": " ++ misuse_text (NumberMissing x)
word_text w JournalMissing = w ++ codes ": " ++ misuse_text JournalMissing

-- what is wrong with a journal, where it is known
abbrev pub trouble_text : Trouble → Option (List ℕ)
trouble_text (System e) = None
trouble_text Locked = Some (codes "another program has it; if none has, a crash left its lock: remove the file of this name with .lock behind it")
trouble_text NoJournal = Some (codes "no journal: its first line names no limits")
trouble_text OtherLimits = Some (codes "its books have other limits than the options ask for: its first line names them")
trouble_text (Stopped e) = Some (error_text e)
trouble_text CallsToo = Some (codes "a report of a journal takes no calls")
trouble_text StreamClosed = Some (codes "standard input, output or error is closed")

-- the line behind the program's name, where it is known: an error of the system is not
abbrev pub failure_text : Failure → Option (List ℕ)
failure_text (Word w m) = Some (word_text (string_bytes w) m)
failure_text (End m) = Some (misuse_text m)
failure_text (Run e) = Some (run.failure_text e)
failure_text (Journal f t) = option_map (λ text. string_bytes f ++ codes ": " ++ text) (trouble_text t)
failure_text (Arguments e) = None
failure_text (File f e) = None
failure_text (Input e) = None
failure_text (Output e) = None

-- why a program fails whose standard input is not answered to its end
abbrev pub stopped : StreamError → Failure
stopped (stream_error.Input e) = Input e
stopped (stream_error.Output e) = Output e
stopped (stream_error.OutOfMemory e) = Run run_error.OutOfMemory

-- what is said of a journal's trouble: its name and what is wrong, or want of memory
abbrev pub FailureOf : List ℕ → Trouble → Failure → Type 0
FailureOf name t (Journal f u) = (string_bytes f ≡ name) × (u ≡ t)
FailureOf name t (Run e) = (e ≡ run_error.OutOfMemory) ⊎ (t ≡ Stopped (replay_error.Run e))
FailureOf name t (Arguments e) = ⊥
FailureOf name t (Word w m) = ⊥
FailureOf name t (End m) = ⊥
FailureOf name t (File f e) = ⊥
FailureOf name t (Input e) = ⊥
FailureOf name t (Output e) = ⊥
