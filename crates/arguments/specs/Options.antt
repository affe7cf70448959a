-- What the arguments of the programs mean: options that widen the books, a journal that they last in, and a file of calls. Definitions only: nothing
-- is assumed.
use Rattle.std.specs.Prelude.{◌≡◌, ℕ, Bool, true, false, cond, List, [], ◌∷◌, Some, None, Ok, Err, codes, Option, Result, ◌++◌, decimal, ◌==◌, nat_le}
use Rattle.std.specs.Option.{ok_or}
use Rattle.std.specs.Str.{bytes_eq}
use Rattle.layout.specs.Layout.{most_items, most_orders, most_lots, most_parts, most_entries}
use Rattle.layout.specs.declared.limits.Limits.{Limits}
use Rattle.words.specs.Numerals.{valued}
use Rattle.arguments.specs.declared.limit.Limit.{Limit}
use Rattle.arguments.specs.declared.limit.Limit.TheVariants.{Items, Orders, Lots, Parts, Entries}
use Rattle.arguments.specs.declared.misuse.Misuse.{Misuse}
use Rattle.arguments.specs.declared.misuse.Misuse.TheVariants.{NoSuchOption, SecondFile, SecondJournal, NotANumber, NumberMissing, JournalMissing, OutOfMemory}
use Rattle.arguments.specs.declared.request.Wanted.{Wanted}
use Rattle.arguments.specs.declared.request.Wanted.TheVariants.{Number, Journal}

-- the limits of new books where no option says otherwise
abbrev pub usual_limits : Limits
usual_limits = record { items = 32; orders = 64; lots = 128; parts = 32; entries = 256 }

-- the option that names a limit, and the limit that a word names
abbrev pub option_name : Limit → List ℕ
option_name Items = codes "--items"
option_name Orders = codes "--orders"
option_name Lots = codes "--lots"
option_name Parts = codes "--parts"
option_name Entries = codes "--entries"

abbrev pub limit_named : List ℕ → Option Limit
limit_named w =
    cond (bytes_eq w (option_name Items)) (Some Items)
    (cond (bytes_eq w (option_name Orders)) (Some Orders)
    (cond (bytes_eq w (option_name Lots)) (Some Lots) (cond (bytes_eq w (option_name Parts)) (Some Parts) (cond (bytes_eq w (option_name Entries)) (Some Entries) None))))

abbrev pub named_or_misuse : List ℕ → Result Limit Misuse
named_or_misuse w = ok_or (limit_named w) NoSuchOption

-- the most that books can be opened with
abbrev pub most : Limit → ℕ
most Items = most_items
most Orders = most_orders
most Lots = most_lots
most Parts = most_parts
most Entries = most_entries

-- limits with another number for one of them
abbrev pub with_limit : Limit → ℕ → Limits → Limits
with_limit Items n l = record { items = n; orders = l.orders; lots = l.lots; parts = l.parts; entries = l.entries }
with_limit Orders n l = record { items = l.items; orders = n; lots = l.lots; parts = l.parts; entries = l.entries }
with_limit Lots n l = record { items = l.items; orders = l.orders; lots = n; parts = l.parts; entries = l.entries }
with_limit Parts n l = record { items = l.items; orders = l.orders; lots = l.lots; parts = n; entries = l.entries }
with_limit Entries n l = record { items = l.items; orders = l.orders; lots = l.lots; parts = l.parts; entries = n }

-- a number, if it is at most so much
abbrev pub at_most : ℕ → Option ℕ → Option ℕ
at_most m (Some n) = cond (nat_le n m) (Some n) None
at_most m None = None

-- the number that a word writes, if it is at most so much
abbrev pub number_to : ℕ → List ℕ → Option ℕ
number_to m word = at_most m (valued word)

-- WHAT IS ASKED FOR so far: limits, a file and a journal by their names, help, and what the next word is to say
pub record Asked : Type 0 where
  pub limits : Limits
  pub file : Option (List ℕ)
  pub journal : Option (List ℕ)
  pub help : Bool
  pub wanted : Option Wanted

abbrev pub nothing_asked : Limits → Asked
nothing_asked l = record { limits = l; file = None; journal = None; help = false; wanted = None }

abbrev pub with_number : Limit → Option ℕ → Asked → Result Asked Misuse
with_number x (Some n) a = Ok (record { limits = with_limit x n a.limits; file = a.file; journal = a.journal; help = a.help; wanted = None })
with_number x None a = Err (NotANumber x)

abbrev pub waiting : Wanted → Asked → Asked
waiting x a = record { limits = a.limits; file = a.file; journal = a.journal; help = a.help; wanted = Some x }

abbrev pub with_option : Option Limit → Asked → Result Asked Misuse
with_option (Some x) a = Ok (waiting (Number x) a)
with_option None a = Err NoSuchOption

abbrev pub with_help : Asked → Asked
with_help a = record { limits = a.limits; file = a.file; journal = a.journal; help = true; wanted = a.wanted }

abbrev pub with_file : Option (List ℕ) → List ℕ → Asked → Result Asked Misuse
with_file None w a = Ok (record { limits = a.limits; file = Some w; journal = a.journal; help = a.help; wanted = a.wanted })
with_file (Some v) w a = Err SecondFile

abbrev pub with_journal : Option (List ℕ) → List ℕ → Asked → Result Asked Misuse
with_journal None w a = Ok (record { limits = a.limits; file = a.file; journal = Some w; help = a.help; wanted = None })
with_journal (Some v) w a = Err SecondJournal

abbrev pub dashed : List ℕ → Bool
dashed [] = false
dashed (c ∷ cs) = c == 45

-- one word that belongs to no option before it
abbrev pub option_taken : List ℕ → Asked → Result Asked Misuse
option_taken w a =
    cond (bytes_eq w (codes "--help")) (Ok (with_help a))
    (cond (bytes_eq w (codes "--journal")) (Ok (waiting Journal a)) (with_option (limit_named w) a))

abbrev pub with_word : List ℕ → Asked → Result Asked Misuse
with_word w a = cond (dashed w) (option_taken w a) (with_file a.file w a)

-- ONE WORD MORE
abbrev pub word_taken : Option Wanted → List ℕ → Asked → Result Asked Misuse
word_taken (Some (Number x)) w a = with_number x (number_to (most x) w) a
word_taken (Some Journal) w a = with_journal a.journal w a
word_taken None w a = with_word w a

-- the end of the words: no option may wait for a word
abbrev pub ended : Option Wanted → Result (Unit {0}) Misuse
ended (Some (Number x)) = Err (NumberMissing x)
ended (Some Journal) = Err JournalMissing
ended None = Ok tt

-- why words are refused, as it is said
abbrev pub misuse_text : Misuse → List ℕ
misuse_text NoSuchOption = codes "no such option"
misuse_text SecondFile = codes "a second file"
misuse_text SecondJournal = codes "a second journal"
misuse_text (NotANumber x) = codes "not a number from 0 to " ++ decimal (most x)
misuse_text (NumberMissing x) = option_name x ++ codes ": a number is missing"
misuse_text JournalMissing = codes "--journal: a file is missing"
misuse_text OutOfMemory = codes "not enough memory"

-- what came of a word, where memory suffices for a file's name
abbrev pub Took : Result Asked Misuse → Result (Unit {0}) Misuse → Asked → Type 0
Took step (Ok u) after = step ≡ Ok after
Took step (Err OutOfMemory) after = Unit {0}
Took step (Err NoSuchOption) after = step ≡ Err NoSuchOption
Took step (Err SecondFile) after = step ≡ Err SecondFile
Took step (Err SecondJournal) after = step ≡ Err SecondJournal
Took step (Err (NotANumber x)) after = step ≡ Err (NotANumber x)
Took step (Err (NumberMissing x)) after = ⊥
Took step (Err JournalMissing) after = ⊥
