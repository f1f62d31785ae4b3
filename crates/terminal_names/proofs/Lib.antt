mod Declarations
