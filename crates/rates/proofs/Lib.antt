mod Instigators
