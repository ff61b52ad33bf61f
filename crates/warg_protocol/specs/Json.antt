-- JSON: what `to_value` and `from_value` answer, and when what was written reads back.
pub use Rattle.warg_crypto.specs.Json.Json.{Returns, ReturnsOrNoMemory, ReadsBack, IsReadBack, Version, AreReadBack}
pub use Rattle.warg_crypto.specs.declared.json.error.JsonError.{JsonError}
-- that the texts of versions stand in what is written
pub use Rattle.warg_crypto.specs.Json.Within.{AreWithin}
-- what JSON is read as, of the values that take no memory
pub use Rattle.warg_crypto.specs.Json.JsonTexts.{algorithm_in, hash_in}
pub use Rattle.warg_crypto.specs.Time.TimeJson.{time_in}
pub use Rattle.warg_permissions.specs.PermissionJson.{permission_from}
pub use Rattle.warg_log.specs.HeadJson.{head_in}
-- the members of objects: what is found, what is written, and what an optional one reads back as
pub use Rattle.warg_crypto.specs.Json.Json.{items_in, member_in, members_in, text_in, json_result}
pub use Rattle.warg_crypto.specs.Json.Members.{option_json, optional, optional_member, put_json, put_option}
pub use Rattle.warg_crypto.specs.Json.Members.{OptionReadsBack}
-- what `to_json` writes: the JSON's text, and what that is read as
pub use Rattle.warg_saved_states.specs.Texts.{IsReadAs, text_of}
-- what `from_json` answers: what is read of the text's JSON, which error of a text a fault of its value is, and what reads back
pub use Rattle.warg_saved_states.specs.JsonText.{ReturnsOfText, TextReadsBack, in_text, text_fault}
pub use Rattle.warg_saved_states.specs.declared.error.JsonTextError.{JsonTextError}
-- what bodies are read as: an envelope, and a published one
pub use Rattle.warg_envelope.specs.EnvelopeJson.{body_in, published_in}
-- what `read_asked` makes of a text: the members of those names, as far as that many objects inside one another
pub use Rattle.warg_saved_states.specs.Asked.{AreAskedOf, AreTaken, IsAskedOf, IsAskedOfText, IsLike, is_asked, texts}
