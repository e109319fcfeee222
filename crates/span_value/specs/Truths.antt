-- The tables of three-valued logic.
use Rattle.span_value.specs.declared.truth.Truth.{Truth}
use Rattle.span_value.specs.declared.truth.Truth.TheVariants.{False, True, Unknown}

abbrev pub and : Truth → Truth → Truth
and False False = False
and False True = False
and False Unknown = False
and True False = False
and True True = True
and True Unknown = Unknown
and Unknown False = False
and Unknown True = Unknown
and Unknown Unknown = Unknown

abbrev pub or : Truth → Truth → Truth
or False False = False
or False True = True
or False Unknown = Unknown
or True False = True
or True True = True
or True Unknown = True
or Unknown False = Unknown
or Unknown True = True
or Unknown Unknown = Unknown

abbrev pub negation : Truth → Truth
negation False = True
negation True = False
negation Unknown = Unknown
