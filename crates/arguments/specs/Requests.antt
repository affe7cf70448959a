-- What a request of the code asks for. Definitions only: nothing is assumed.
use Rattle.std.specs.Prelude.{string_bytes}
use Rattle.std.specs.Option.{option_map}
use Rattle.arguments.specs.Options.{Asked}
use Rattle.arguments.specs.declared.request.Request.{Request}

abbrev pub asked : Request → Asked
asked r = record { limits = r.limits; file = option_map string_bytes r.file; journal = option_map string_bytes r.journal; help = r.help; wanted = r.wanted }
